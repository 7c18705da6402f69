-- Leaves that are looked for one after another.
use Rattle.std.proofs.Common.{◌≡◌, ℕ, ◌+◌, ◌<◌, ◌≤◌, Bool, nat_eq, IsTrue, ◌↔◌, is_some, List, [], ◌∷◌, ◌++◌, length, map, Option, Some, None, slice_get, refl, sym, ap, ◌∙◌, subst, inl, arith}
use Rattle.std.specs.List.{list_any}
use Rattle.std.proofs.lemmas.Bool.{eqb-true, eq-eqb}
use Rattle.std.proofs.lemmas.List.{map-append}
use Rattle.flow_model.specs.Lists.{◌∈◌, Each}
use Rattle.flow_model.specs.Verdict.{AreJust}
use Rattle.flow_model.specs.Run.{IsCurrent}
use Rattle.flow_model.proofs.Lists.{only_one, each-append}
use Rattle.flow_model.proofs.MadeLists.{passing_member, some_passes}
use Rattle.flow_core.specs.Run.{Run, schema, now}
use Rattle.flow_core.specs.Holding.{IsTakeable}
use Rattle.flow_core.proofs.Calls.{event_below}
use Rattle.flow_core.proofs.RisingLists.{Below, one_found}
use Rattle.flow_names.specs.declared.todo.OutTask.{OutTask}
use Rattle.flow_names.specs.Todo.{number_of, IsOutTask}
use Rattle.flow_names.specs.declared.leaves.Sought.{Sought}
use Rattle.flow_names.specs.declared.leaves.Sought.TheVariants.{Event, Label}
use Rattle.flow_names.specs.declared.leaves.Listed.{Listed}
use Rattle.flow_names.specs.declared.leaves.Listed.TheVariants.{All, Left}
use Rattle.flow_names.specs.Meaning.{IsSought, IsFree, NoneHas, IsTheOne}
use Rattle.flow_names.specs.Leaves.{IsListed}

-- what is sought is a leaf of the goal
pub sought_below : (r : Run) (sought : Sought) (leaf : ℕ) → IsSought r sought leaf → leaf < length (schema r).labels
sought_below r (Event event) leaf h = event_below (schema r).labels leaf (ap (λ (o : Option ℕ). is_some o) h)
sought_below r (Label label) leaf h = h.0

pub free_below : (r : Run) (sought : Sought) (leaf : ℕ) → IsFree r sought leaf → leaf < length (schema r).labels
free_below r sought leaf h = sought_below r sought leaf h.0

pub listed_below : (r : Run) (sought : Sought) (listed : Listed) (leaf : ℕ) → IsListed r sought listed leaf → leaf < length (schema r).labels
listed_below r sought All leaf h = sought_below r sought leaf h
listed_below r sought Left leaf h = sought_below r sought leaf h.0

pub takeable_below : (r : Run) (leaf : ℕ) → IsTakeable r leaf → leaf < length (schema r).labels
takeable_below r leaf h = event_below (schema r).labels leaf h.2.0

-- a list of those with P has at most one
pub the_one : (P : ℕ → Type 0) (list : List ℕ) (x : ℕ) → AreJust P list → length list ≤ 1 → Some x ≡ slice_get list 0 → IsTheOne P x
the_one P [] x just few first = absurd (cc)
the_one P (y ∷ []) x just few first =
    let same : x ≡ y = cc in
    (subst P (sym same) ((just.exact y).0 (inl refl)), λ other has. only_one other y ((just.exact other).1 has) ∙ sym same)
the_one P (y ∷ z ∷ more) x just few first = absurd (omega arith)

-- or none
pub none_there : (P : ℕ → Type 0) (list : List ℕ) → AreJust P list → None ≡ slice_get list 0 → NoneHas P
none_there P [] just first = λ n has. (just.exact n).1 has
none_there P (y ∷ more) just first = absurd (cc)

-- Claims that are out

-- one task more
pub out_found : (r : Run) (claim : ℕ) (out : List OutTask) (task : OutTask) → AreJust (Below (IsCurrent (now r)) claim) (map number_of out) →
    Each (IsOutTask r) out → IsCurrent (now r) claim × (number_of task ≡ claim) × IsOutTask r task →
    AreJust (Below (IsCurrent (now r)) (claim + 1)) (map number_of (out ++ task ∷ [])) × Each (IsOutTask r) (out ++ task ∷ [])
out_found r claim out task just tasks (current, same, is) =
    let more = one_found (IsCurrent (now r)) claim (map number_of out) just current in
    let at_end : map number_of out ++ claim ∷ [] ≡ map number_of (out ++ task ∷ []) =
    ap (λ n. map number_of out ++ n ∷ []) (sym same) ∙ sym (map-append number_of out (task ∷ [])) in
    (subst (AreJust (Below (IsCurrent (now r)) (claim + 1))) at_end more, each-append (IsOutTask r) out (task ∷ []) tasks (is, tt))

-- a test for a member
pub is_among : (b : Bool) (x : ℕ) (list other : List ℕ) → b ≡ list_any (λ y. nat_eq y x) list → list ≡ other → IsTrue b ↔ (x ∈ other)
is_among b x list other e same = (
  λ yes. let (y, there, is) = passing_member (λ y. nat_eq y x) list (sym e ∙ yes) in
      subst (λ l. x ∈ l) same (subst (λ n. n ∈ list) (eqb-true y x is) there),
  λ m. e ∙ some_passes (λ y. nat_eq y x) x list (subst (λ l. x ∈ l) (sym same) m) (eq-eqb x x refl),
)
