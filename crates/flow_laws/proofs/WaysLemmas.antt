-- Constraints, their normal forms and their ways: of which leaves the pairs are, and what is decided by them.
use Rattle.std.proofs.Common.{◌≡◌, ◌≢◌, ℕ, ◌⊎◌, Bool, true, false, ◌==◌, ◌||◌, if◌then◌else◌, List, [], ◌∷◌, ◌++◌, refl, sym, ap, ◌∙◌, subst, inl, inr, ⊎_elim, Option, Some, None, ◌↔◌, arith}
use Rattle.std.proofs.lemmas.Bool.{cases_Bool, eqb-true, eqb-false, eq-eqb}
use Rattle.flow_model.specs.declared.labels.Label.{Label}
use Rattle.flow_model.specs.Lists.{◌∈◌, Each, StandsBefore, AreDistinct, AreInOrder, each_with_each}
use Rattle.flow_model.specs.Facts.{event_at, is_event, events_of}
use Rattle.flow_model.specs.Ways.{Normal, always, impossible, must, never, before, not_before, both, either, ways, leaf_of_event, free_way, is_free, ways_of_before, ways_of_not_before, normal_form, chain, broken_chain}
use Rattle.flow_model.specs.Constraint.{Constraint, Always, Impossible, Must, Never, Order, Not, And, Or, Meets, HappenInOrder}
use Rattle.flow_model.specs.Decided.{decide_in, decide_before, decide_meets}
use Rattle.flow_model.proofs.Lists.{mem-append, each-append, before_members, mem_append_left, mem_append_right, each_parts, not_both_ways, before_or_after, not_before_itself, each_from_members, each_member}
use Rattle.flow_model.proofs.MadeLists.{of_each_with_each, of_find, some_same, mem-each_with_each, not_found, mem-filter_map, of_filter_map, before-filter_map, of_before-filter_map, same_source}

cases_option : (o : Option ℕ) → (o ≡ None) ⊎ ((x : ℕ) × (o ≡ Some x))
cases_option None = inl refl
cases_option (Some x) = inr (x, refl)

-- The leaf of an event

pub event_from_test : (e : ℕ) (o : Option ℕ) → is_event e o ≡ true → o ≡ Some e
event_from_test e None h = cc
event_from_test e (Some x) h = ap Some (eqb-true x e h)

pub test_of_event : (e : ℕ) (o : Option ℕ) → o ≡ Some e → is_event e o ≡ true
test_of_event e o h = ap (is_event e) h ∙ eq-eqb e e refl

pub leaf_of_event_is : (labels : List Label) (ls : List ℕ) (e n : ℕ) → leaf_of_event labels ls e ≡ Some n →
    (n ∈ ls) × (event_at labels n ≡ Some e)
leaf_of_event_is labels ls e n h =
    let (m, k) = of_find (λ x. is_event e (event_at labels x)) ls n h in (m, event_from_test e (event_at labels n) k)

-- one leaf has one event
pub same_event : (labels : List Label) (ls : List ℕ) (a b x y : ℕ) →
    leaf_of_event labels ls a ≡ Some x → leaf_of_event labels ls b ≡ Some y → x ≡ y → a ≡ b
same_event labels ls a b x y i j e =
    some_same a b (sym (leaf_of_event_is labels ls a x i).1 ∙ (ap (event_at labels) e ∙ (leaf_of_event_is labels ls b y j).1))

-- Pairs

-- what holds of two leaves of different events holds of each pair of each way
each_way : (P : ℕ × ℕ → Type 0) (leaf : ℕ → Option ℕ) →
    ((a b x y : ℕ) → a ≢ b → leaf a ≡ Some x → leaf b ≡ Some y → P (x, y)) → (n : Normal) → Each (Each P) (ways n leaf)
each_way P leaf h always = (tt, tt)
each_way P leaf h impossible = tt
each_way P leaf h (must e) = grind (arith, cases_option (leaf e))
each_way P leaf h (never e) = grind (arith, cases_option (leaf e))
each_way P leaf h (before a b) = grind (arith, h a b, eqb-false a b, cases_Bool (a == b), cases_option (leaf a), cases_option (leaf b))
each_way P leaf h (not_before a b) = grind (arith, h b a, eqb-false a b, cases_Bool (a == b), cases_option (leaf a), cases_option (leaf b))
each_way P leaf h (both x y) = each_from_members (Each P) (ways (both x y) leaf) (λ way m.
    let (v, (w, mv, mw, e)) = of_each_with_each (λ v w. v ++ w) way (ways x leaf) (ways y leaf) m in
    rw e (each-append P v w (each_member _ (ways x leaf) (each_way P leaf h x) v mv) (each_member _ (ways y leaf) (each_way P leaf h y) w mw)))
each_way P leaf h (either x y) = grind (
  arith,
  cases_Bool (is_free (ways x leaf) || is_free (ways y leaf)),
  each-append (Each P) (ways x leaf) (ways y leaf) (each_way P leaf h x) (each_way P leaf h y),
)

pub each_pair : (P : ℕ × ℕ → Type 0) (leaf : ℕ → Option ℕ) →
    ((a b x y : ℕ) → a ≢ b → leaf a ≡ Some x → leaf b ≡ Some y → P (x, y)) →
    (n : Normal) (way : List (ℕ × ℕ)) → way ∈ ways n leaf → Each P way
each_pair P leaf h n = each_member (Each P) (ways n leaf) (each_way P leaf h n)

-- the normal form is true of the whole list of an execution's events
abbrev pub MeetsNormal : Normal → List ℕ → Type 0
MeetsNormal always events = Unit {0}
MeetsNormal impossible events = ⊥
MeetsNormal (must e) events = e ∈ events
MeetsNormal (never e) events = ¬ (e ∈ events)
MeetsNormal (before a b) events = StandsBefore a b events
MeetsNormal (not_before a b) events = ¬ (StandsBefore a b events)
MeetsNormal (both x y) events = MeetsNormal x events × MeetsNormal y events
MeetsNormal (either x y) events = MeetsNormal x events ⊎ MeetsNormal y events

-- Whether or not

pub not_not : {A : Type 0} → A ⊎ ¬ A → ¬ (¬ A) → A
not_not (inl a) h = a
not_not (inr n) h = absurd (h n)

-- Chains

pub chain_is : (es events : List ℕ) →
    (HappenInOrder es events ↔ MeetsNormal (chain es) events) × ((¬ (HappenInOrder es events)) ↔ MeetsNormal (broken_chain es) events)
chain_is [] events = grind arith
chain_is (a ∷ []) events = ((λ h. h, λ h. h), (λ h. h, λ h. h))
chain_is (a ∷ b ∷ []) events = grind (arith, before_members a b events)
chain_is (a ∷ b ∷ c ∷ more) events = grind (arith, chain_is (b ∷ c ∷ more) events, decide_before a b events)

-- a constraint and its normal form; its negation and that one's
pub normal_form_is : (c : Constraint) (events : List ℕ) →
    (Meets c events ↔ MeetsNormal (normal_form c true) events)
    × ((¬ (Meets c events)) ↔ MeetsNormal (normal_form c false) events)
normal_form_is Always events = grind arith
normal_form_is Impossible events = grind arith
normal_form_is (Must e) events = grind arith
normal_form_is (Never e) events = grind (arith, decide_in e events)
normal_form_is (Order es) events = chain_is es events
normal_form_is (Not c) events = grind (arith, normal_form_is c events, decide_meets c events)
normal_form_is (And c d) events = grind (arith, normal_form_is c events, normal_form_is d events, decide_meets c events)
normal_form_is (Or c d) events = grind (arith, normal_form_is c events, normal_form_is d events)

-- some way of the list stands in order
abbrev pub HasWay : List (List (ℕ × ℕ)) → List ℕ → Type 0
HasWay vs t = (way : List (ℕ × ℕ)) × (way ∈ vs) × AreInOrder way t

-- the leaves of a list of distinct events
pub record AreItsLeaves (labels : List Label) (t ls : List ℕ) : Type 0 where
  pub distinct : AreDistinct (events_of labels t)
  pub same : (n : ℕ) → (n ∈ t) ↔ (n ∈ ls)

-- The leaf of an event

pub leaf_is_there : {labels : List Label} {t ls : List ℕ} → AreItsLeaves labels t ls → (e n : ℕ) →
    leaf_of_event labels ls e ≡ Some n → (n ∈ t) × (event_at labels n ≡ Some e)
leaf_is_there {labels} {t} {ls} l e n h = let (m, k) = leaf_of_event_is labels ls e n h in ((l.same n).1 m, k)

pub event_is_not_there : {labels : List Label} {t ls : List ℕ} → AreItsLeaves labels t ls → (e : ℕ) →
    leaf_of_event labels ls e ≡ None → ¬ (e ∈ events_of labels t)
event_is_not_there {labels} {t} {ls} l e h m =
    let (n, k, i) = of_filter_map (event_at labels) e t m in
    not_found (λ x. is_event e (event_at labels x)) ls n h ((l.same n).0 k) (test_of_event e (event_at labels n) i)

pub event_is_there : {labels : List Label} {t ls : List ℕ} → AreItsLeaves labels t ls → (e n : ℕ) →
    leaf_of_event labels ls e ≡ Some n → e ∈ events_of labels t
event_is_there {labels} {t} {ls} l e n h =
    let (m, k) = leaf_is_there l e n h in mem-filter_map (event_at labels) n e t m k

-- the events stand as their leaves do
pub before_leaves : {labels : List Label} {t ls : List ℕ} → AreItsLeaves labels t ls → (a b x y : ℕ) →
    leaf_of_event labels ls a ≡ Some x → leaf_of_event labels ls b ≡ Some y →
    StandsBefore a b (events_of labels t) → StandsBefore x y t
before_leaves {labels} {t} {ls} l a b x y i j s =
    let (u, (v, r, k, h)) = of_before-filter_map (event_at labels) a b t s in
    let (mx, ex) = leaf_is_there l a x i in
    let (my, ey) = leaf_is_there l b y j in
    let (mu, mv) = before_members u v t r in
    grind (arith, r, same_source (event_at labels) t l.distinct u x a mu mx k ex, same_source (event_at labels) t l.distinct v y b mv my h ey)

pub before_events : {labels : List Label} {t ls : List ℕ} → AreItsLeaves labels t ls → (a b x y : ℕ) →
    leaf_of_event labels ls a ≡ Some x → leaf_of_event labels ls b ≡ Some y →
    StandsBefore x y t → StandsBefore a b (events_of labels t)
before_events {labels} {t} {ls} l a b x y i j s =
    before-filter_map (event_at labels) x y a b t s (leaf_is_there l a x i).1 (leaf_is_there l b y j).1

-- The forms of one and two events

pub free_has_way : (t : List ℕ) → HasWay free_way t
free_has_way t = ([], inl refl, tt)

-- what is not has no way, and that it is not the free one; what is where a pair stands in order has the way of that pair
is_not : {P : Type 0} (t : List ℕ) → ¬ P → (P ↔ HasWay [] t) × ((¬ P) ↔ HasWay free_way t)
is_not t n = ((λ h. absurd (n h), λ k. absurd k.1), (λ h. free_has_way t, λ k. n))

pair_is : {P : Type 0} (t : List ℕ) (x y : ℕ) → (P → StandsBefore x y t) → (StandsBefore x y t → P) → P ↔ HasWay (((x, y) ∷ []) ∷ []) t
pair_is t x y to from = (
  λ h. ((x, y) ∷ [], inl refl, (to h, tt)),
  λ (way, m, s). ⊎_elim (λ (e : way ≡ (x, y) ∷ []). from (subst (λ v. AreInOrder v t) e s).0) absurd m,
)

-- where one event is not there, or the two are one, they do not stand in order
not_in_order : {labels : List Label} {t ls : List ℕ} → AreItsLeaves labels t ls → (a b : ℕ) →
    ((a == b) ≡ true) ⊎ ((leaf_of_event labels ls a ≡ None) ⊎ (leaf_of_event labels ls b ≡ None)) → ¬ (StandsBefore a b (events_of labels t))
not_in_order {labels} {t} l a b h s = grind (
  arith,
  h,
  eqb-true a b,
  not_before_itself b (events_of labels t) l.distinct,
  before_members a b (events_of labels t) s,
  event_is_not_there l a,
  event_is_not_there l b,
)

before_by_way : {labels : List Label} {t ls : List ℕ} → AreItsLeaves labels t ls → (a b : ℕ) →
    (same : Bool) → (a == b) ≡ same → (o : Option ℕ) → leaf_of_event labels ls a ≡ o → (p : Option ℕ) → leaf_of_event labels ls b ≡ p →
    (StandsBefore a b (events_of labels t) ↔ HasWay (if same then [] else ways_of_before o p) t)
    × ((¬ (StandsBefore a b (events_of labels t))) ↔ HasWay (if same then free_way else ways_of_not_before o p) t)
before_by_way {t = t} l a b true e o i p j = is_not t (not_in_order l a b (inl e))
before_by_way {t = t} l a b false e None i p j = is_not t (not_in_order l a b (inr (inl i)))
before_by_way {t = t} l a b false e (Some x) i None j = is_not t (not_in_order l a b (inr (inr j)))
before_by_way {labels} {t} {ls} l a b false e (Some x) i (Some y) j =
    let other : x ≢ y = λ same. eqb-false a b e (same_event labels ls a b x y i j same) in (
      pair_is t x y (before_leaves l a b x y i j) (before_events l a b x y i j),
      pair_is t y x (λ n. grind (arith, n, before_events l a b x y i j, before_or_after x y t (leaf_is_there l a x i).0 (leaf_is_there l b y j).0 other))
          (λ s r. not_both_ways a b (events_of labels t) l.distinct r (before_events l b a y x j i s)),
    )

-- The joined forms

pub free_is : (vs : List (List (ℕ × ℕ))) → is_free vs ≡ true → vs ≡ free_way
free_is [] e = cc
free_is ((pair ∷ pairs) ∷ vs) e = cc
free_is ([] ∷ []) e = refl
free_is ([] ∷ way ∷ vs) e = cc

pub both_by_way : (t : List ℕ) (X Y : Type 0) (vs ws : List (List (ℕ × ℕ))) → X ↔ HasWay vs t → Y ↔ HasWay ws t →
    (X × Y) ↔ HasWay (each_with_each (λ v w. v ++ w) vs ws) t
both_by_way t X Y vs ws (to_x, from_x) (to_y, from_y) = (
  λ h. let (v, mv, sv) = to_x h.0 in let (w, mw, sw) = to_y h.1 in
      (v ++ w, mem-each_with_each (λ v w. v ++ w) v w vs ws mv mw, each-append _ v w sv sw),
  λ (way, m, s).
      let (v, (w, mv, mw, e)) = of_each_with_each (λ v w. v ++ w) way vs ws m in
      let (sv, sw) = each_parts (λ (pair : ℕ × ℕ). StandsBefore pair.0 pair.1 t) v w (subst (λ u. AreInOrder u t) e s) in
      (from_x (v, mv, sv), from_y (w, mw, sw)),
)

pub either_by_way : (t : List ℕ) (X Y : Type 0) (vs ws : List (List (ℕ × ℕ))) → X ↔ HasWay vs t → Y ↔ HasWay ws t →
    (f g : Bool) → is_free vs ≡ f → is_free ws ≡ g →
    (X ⊎ Y) ↔ HasWay (if f || g then free_way else vs ++ ws) t
either_by_way t X Y vs ws x y true g e i = grind (arith, x, e, free_is vs, free_has_way t)
either_by_way t X Y vs ws x y false true e i = grind (arith, y, i, free_is ws, free_has_way t)
either_by_way t X Y vs ws x y false false e i = (
  ⊎_elim (λ k. let (v, m, s) = x.0 k in (v, mem_append_left v vs ws m, s)) (λ k. let (v, m, s) = y.0 k in (v, mem_append_right v vs ws m, s)),
  λ (way, m, s). ⊎_elim (λ k. inl (x.1 (way, k, s))) (λ k. inr (y.1 (way, k, s))) (mem-append way vs ws m),
)

pub ways_decide : {labels : List Label} {t ls : List ℕ} → AreItsLeaves labels t ls → (n : Normal) →
    MeetsNormal n (events_of labels t) ↔ HasWay (ways n (leaf_of_event labels ls)) t
ways_decide {t = t} l always = (λ h. free_has_way t, λ h. tt)
ways_decide l impossible = (λ h. absurd h, λ h. h.1)
ways_decide {labels} {t} {ls} l (must e) =
    grind (arith, cases_option (leaf_of_event labels ls e), event_is_not_there l e, event_is_there l e, free_has_way t)
ways_decide {labels} {t} {ls} l (never e) =
    grind (arith, cases_option (leaf_of_event labels ls e), event_is_not_there l e, event_is_there l e, free_has_way t)
ways_decide l (before a b) = (before_by_way l a b _ refl _ refl _ refl).0
ways_decide l (not_before a b) = (before_by_way l a b _ refl _ refl _ refl).1
ways_decide {t = t} l (both x y) = both_by_way t _ _ _ _ (ways_decide l x) (ways_decide l y)
ways_decide {t = t} l (either x y) = either_by_way t _ _ _ _ (ways_decide l x) (ways_decide l y) _ _ refl refl
