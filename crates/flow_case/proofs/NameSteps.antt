-- Names that are gone through, one after another.
use Rattle.std.proofs.Common.{◌≡◌, ◌++◌, ◌+◌, ◌<◌, ℕ, Bool, true, false, IsTrue, List, [], ◌∷◌, length, map, take, drop, get_or, slice_get, Some, if◌then◌else◌, refl, sym, ap, ◌∙◌, append-nil}
use Rattle.std.proofs.lemmas.List.{map-append, take_more}
use Rattle.flow_model.specs.Lists.{◌∈◌, Each}
use Rattle.flow_model.proofs.Lists.{mem-slice_get}
use Rattle.flow_workflow.specs.Numbered.{IsAdded}
use Rattle.flow_policy.specs.Policy.{firsts, with_name}
use Rattle.flow_policy.proofs.FirstLemmas.{added_is_with_name, firsts_more}
use Rattle.flow_policy.proofs.RowLemmas.{around}
use Rattle.flow_case.specs.declared.kind.Kind.{Kind}
use Rattle.flow_case.specs.declared.text_refusal.CasePolicyRefusal.{CasePolicyRefusal}
use Rattle.flow_case.specs.declared.text_refusal.CasePolicyRefusal.TheVariants.{Policy, Expected, NoEvent, NoRole, NoMemory}
use Rattle.flow_case.specs.Givens.{unknown_at, IsNameRefusal, IsOfFirst, IsNamesRefusal}
use Rattle.flow_case.specs.Reading.{Given, is_kind, names_given}
use Rattle.flow_case.specs.RulesOf.{IsKnownName, users_in, roles_in, named_in}

firsts_added : (names old new : List (List ℕ)) (n : List ℕ) → old ≡ firsts names → IsAdded old n new → new ≡ firsts (names ++ n ∷ [])
firsts_added names old new n is added = added_is_with_name old new n added ∙ ap (λ l. with_name l n) is ∙ sym (firsts_more names n)

pub user_added : (so_far : List (List ℕ × List ℕ)) (m : List ℕ × List ℕ) (old new : List (List ℕ)) → old ≡ users_in so_far → IsAdded old m.0 new → new ≡ users_in (so_far ++ m ∷ [])
user_added so_far m old new is added =
    firsts_added (map (λ (x : List ℕ × List ℕ). x.0) so_far) old new m.0 is added ∙ ap firsts (sym (map-append (λ (x : List ℕ × List ℕ). x.0) so_far (m ∷ [])))

pub role_added : (so_far : List (List ℕ × List ℕ)) (m : List ℕ × List ℕ) (old new : List (List ℕ)) → old ≡ roles_in so_far → IsAdded old m.1 new → new ≡ roles_in (so_far ++ m ∷ [])
role_added so_far m old new is added =
    firsts_added (map (λ (x : List ℕ × List ℕ). x.1) so_far) old new m.1 is added ∙ ap firsts (sym (map-append (λ (x : List ℕ × List ℕ). x.1) so_far (m ∷ [])))

-- the names of one more
pub names_end : (kind : Kind) (so_far : List Given) (g : Given) → names_given kind (so_far ++ g ∷ []) ≡ names_given kind so_far ++ names_given kind (g ∷ [])
names_end kind [] g = refl
names_end kind (x ∷ so_far) g = by (is_kind kind x.kind) (names_end kind so_far g)
  where
    by : (b : Bool) → names_given kind (so_far ++ g ∷ []) ≡ names_given kind so_far ++ names_given kind (g ∷ []) → (if b then x.name ∷ names_given kind (so_far ++ g ∷ []) else names_given kind (so_far ++ g ∷ [])) ≡
        (if b then x.name ∷ names_given kind so_far else names_given kind so_far) ++ names_given kind (g ∷ [])
    by true later = ap (λ l. x.name ∷ l) later
    by false later = later

one_name : (kind : Kind) (g : Given) (b : Bool) → is_kind kind g.kind ≡ b → names_given kind (g ∷ []) ≡ if b then g.name ∷ [] else []
one_name kind g b is = ap (λ x. if x then g.name ∷ [] else []) is

pub names_with : (kind : Kind) (so_far : List Given) (g : Given) → IsTrue (is_kind kind g.kind) → names_given kind (so_far ++ g ∷ []) ≡ names_given kind so_far ++ g.name ∷ []
names_with kind so_far g is = names_end kind so_far g ∙ ap (λ l. names_given kind so_far ++ l) (one_name kind g true is)

pub names_without : (kind : Kind) (so_far : List Given) (g : Given) → is_kind kind g.kind ≡ false → names_given kind (so_far ++ g ∷ []) ≡ names_given kind so_far
names_without kind so_far g is =
    names_end kind so_far g ∙ ap (λ l. names_given kind so_far ++ l) (one_name kind g false is) ∙ append-nil (names_given kind so_far)

pub name_added : (kind : Kind) (so_far : List Given) (g : Given) (old new : List (List ℕ)) → IsTrue (is_kind kind g.kind) → old ≡ named_in kind so_far → IsAdded old g.name new →
    new ≡ named_in kind (so_far ++ g ∷ [])
name_added kind so_far g old new is was added = firsts_added (names_given kind so_far) old new g.name was added ∙ ap firsts (sym (names_with kind so_far g is))

pub name_passed : (kind : Kind) (so_far : List Given) (g : Given) (old : List (List ℕ)) → is_kind kind g.kind ≡ false → old ≡ named_in kind so_far → old ≡ named_in kind (so_far ++ g ∷ [])
name_passed kind so_far g old is was = was ∙ ap firsts (sym (names_without kind so_far g is))

-- what stands at a place is a member
pub place_of_member : (names : List (List ℕ)) (n : List ℕ) (k : ℕ) → slice_get names k ≡ Some n → n ∈ names
place_of_member names n k at = mem-slice_get names k n at

pub refused_so : (events roles : List (List ℕ)) (g : Given) (refusal : CasePolicyRefusal) → refusal ≡ unknown_at g.kind g.place → ¬ (IsKnownName events roles g) →
    IsNameRefusal events roles g refusal
refused_so events roles g (Policy why) is out = (is, out)
refused_so events roles g (Expected place) is out = (is, out)
refused_so events roles g (NoEvent place) is out = (is, out)
refused_so events roles g (NoRole place) is out = (is, out)
refused_so events roles g NoMemory is out = tt

-- the name at which the reading stops is the first that is not known
pub stops_at : {A : Type 0} (f : A → Given) (events roles : List (List ℕ)) (xs : List A) (k : ℕ) (d : A) → k < length xs → Each (IsKnownName events roles) (map f (take k xs)) →
    (refusal : CasePolicyRefusal) → IsNameRefusal events roles (f (get_or xs k d)) refusal → IsNamesRefusal events roles (map f xs) refusal
stops_at {A} f events roles xs k d lt known = by
  where
    of : (refusal : CasePolicyRefusal) → IsNameRefusal events roles (f (get_or xs k d)) refusal → IsOfFirst events roles (map f xs) refusal
    of refusal why = record {
      front = map f (take k xs);
      here = f (get_or xs k d);
      back = map f (drop (k + 1) xs);
      cut = ap (map f) (around xs k d lt) ∙ map-append f (take k xs) (get_or xs k d ∷ drop (k + 1) xs);
      refused = why;
      first = known;
    }

    by : (refusal : CasePolicyRefusal) → IsNameRefusal events roles (f (get_or xs k d)) refusal → IsNamesRefusal events roles (map f xs) refusal
    by (Policy why) h = of (Policy why) h
    by (Expected place) h = of (Expected place) h
    by (NoEvent place) h = of (NoEvent place) h
    by (NoRole place) h = of (NoRole place) h
    by NoMemory h = tt

-- those of the first so many, and one more
pub taken_more : {A B : Type 0} (f : A → B) (xs : List A) (k : ℕ) (d : A) → k < length xs → map f (take k xs) ++ f (get_or xs k d) ∷ [] ≡ map f (take (k + 1) xs)
taken_more f xs k d lt = sym (ap (map f) (take_more xs k d lt) ∙ map-append f (take k xs) (get_or xs k d ∷ []))
