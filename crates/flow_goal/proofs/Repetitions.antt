-- Pairs of leaves of one event in one execution.
use Rattle.std.proofs.Common.{◌≡◌, ◌≢◌, ◌<◌, ℕ, zero, suc, ◌+◌, List, ◌∷◌, Bool, true, false, cond, nat_lt, nat_eq, ◌||◌, ◌&&◌, [], length, ◌⊎◌, ◌↔◌, Option, Some, None, IsNone, IfSome, MatchOption, true≢false, refl, sym, ◌∙◌, subst, inl, inr, arith}
use Rattle.std.proofs.lemmas.Bool.{cases_lt, eqb-true, eq-eqb, ltb-true, ltb-false}
use Rattle.std.proofs.lemmas.Option.{same_Some}
use Rattle.flow_model.specs.Lists.{◌∈◌, joined}
use Rattle.flow_model.specs.Process.{IsNumbered}
use Rattle.flow_model.specs.declared.labels.Label.{Label}
use Rattle.flow_model.specs.Facts.{event_at, is_event}
use Rattle.flow_model.specs.Schema.{Schema}
use Rattle.flow_laws.specs.Events.{AreTogether}
use Rattle.flow_laws.proofs.EventsLemmas.{blocks_with_both, are_together, unique_events}
use Rattle.flow_model.proofs.MadeLists.{same_source}
use Rattle.flow_goal.specs.Labelled.{Labelled}
use Rattle.flow_goal.specs.Repeats.{HoldsNoneOf, HoldsNoneTwice, HoldsTwice, IsFirstBefore, IsFirstOf, IsFirstTwice, IsFoundBefore, is_sooner, sooner}
use Rattle.flow_goal.specs.Times.{IsRepeated, StandsAgain}
use Rattle.flow_goal.specs.declared.occurrence.Occurrence.TheVariants.{Never, Once, Again}
use Rattle.flow_goal.specs.declared.repeats.Twice.{Twice}
use Rattle.flow_goal.specs.Occurrences.{occurrence_in}
use Rattle.flow_goal.proofs.FirstPair.{IsOccurrence, IsSooner, Paired, Passing, occurrence_is, together_rise, together_first}
use Rattle.flow_laws.proofs.WaysLemmas.{event_from_test, test_of_event}

-- the test for an event
abbrev pub passes : Labelled → ℕ → ℕ → Bool
passes t event = λ n. is_event event (event_at t.labels n)

-- a pair is together in the goal
pair_together : (t : Labelled) → IsNumbered t.process (length t.labels) → (event x y : ℕ) → HoldsTwice t event x y → AreTogether t.process x y
pair_together t whole event x y h =
    let (trace, (blocks, b, k), mx, my) = h.together in
    let lt : x < y = h.apart in
    let differ : x ≢ y = omega arith in
    elim (are_together t.process blocks b x y (subst (λ v. x ∈ v) k mx) (subst (λ v. y ∈ v) k my) differ) [
      | inl i ↦ i
      | inr i ↦ (let gt : y < x = together_rise t.process y x 0 (length t.labels) whole i in absurd (omega arith))
    ]

-- and two leaves of one event that are together are a pair
pair_of_together : (t : Labelled) → IsNumbered t.process (length t.labels) → (event x y : ℕ) → AreTogether t.process x y →
    event_at t.labels x ≡ Some event → event_at t.labels y ≡ Some event → HoldsTwice t event x y
pair_of_together t whole event x y h e f =
    let (blocks, b, mx, my) = blocks_with_both t.process x y h in
    record {
      apart = together_rise t.process x y 0 (length t.labels) whole h;
      at_first = e;
      at_second = f;
      together = (joined blocks, (blocks, b, refl), mx, my);
    }

-- Pairs of one event

paired : (t : Labelled) → IsNumbered t.process (length t.labels) → (event x y : ℕ) → HoldsTwice t event x y → Paired (passes t event) t.process x y
paired t whole event x y h = (
  pair_together t whole event x y h,
  test_of_event event (event_at t.labels x) h.at_first,
  test_of_event event (event_at t.labels y) h.at_second,
)

pair_of_paired : (t : Labelled) → IsNumbered t.process (length t.labels) → (event x y : ℕ) → Paired (passes t event) t.process x y → HoldsTwice t event x y
pair_of_paired t whole event x y (h, p, q) =
    pair_of_together t whole event x y h (event_from_test event (event_at t.labels x) p) (event_from_test event (event_at t.labels y) q)

pub none_never : (t : Labelled) → IsNumbered t.process (length t.labels) → (event : ℕ) → Never ≡ occurrence_in (passes t event) t.process → HoldsNoneOf t event
none_never t whole event e x y h =
    let none = subst (IsOccurrence (Passing (passes t event) t.process) (Paired (passes t event) t.process)) (sym e)
    (occurrence_is (passes t event) t.process 0 (length t.labels) whole) in
    let (p, q, r) = paired t whole event x y h in
    none x (together_first t.process x y p, q)

pub none_once : (t : Labelled) → IsNumbered t.process (length t.labels) → (event n : ℕ) → Once n ≡ occurrence_in (passes t event) t.process → HoldsNoneOf t event
none_once t whole event n e x y h =
    let is = subst (IsOccurrence (Passing (passes t event) t.process) (Paired (passes t event) t.process)) (sym e)
    (occurrence_is (passes t event) t.process 0 (length t.labels) whole) in
    is.1 x y (paired t whole event x y h)

pub first_again : (t : Labelled) → IsNumbered t.process (length t.labels) → (event n x y : ℕ) → Again n x y ≡ occurrence_in (passes t event) t.process →
    IsFirstOf t event (record { event = event; first = x; second = y })
first_again t whole event n x y e =
    let is = subst (IsOccurrence (Passing (passes t event) t.process) (Paired (passes t event) t.process)) (sym e)
    (occurrence_is (passes t event) t.process 0 (length t.labels) whole) in
    record {
      twice = pair_of_paired t whole event x y is.1.0;
      least = λ v w h. is.1.1 v w (paired t whole event v w h);
    }

-- The sooner of two pairs

abbrev Comes : Twice → Twice → Type 0
Comes one other = IsSooner one.first one.second other.first other.second

then_sooner : (a b : Twice) (v w : ℕ) → Comes a b → IsSooner b.first b.second v w → IsSooner a.first a.second v w
then_sooner a b v w (inl lt) (inl after) = inl (omega arith)
then_sooner a b v w (inl lt) (inr same) = inl (omega (arith, same.0))
then_sooner a b v w (inr same) (inl after) = inl (omega (arith, same.0))
then_sooner a b v w (inr (e, le)) (inr (f, more)) = inr (e ∙ f, omega arith)

comes_first : (one other : Twice) → is_sooner one other ≡ true → Comes one other
comes_first one other e = order (nat_lt one.first other.first) (nat_eq one.first other.first) (nat_lt one.second other.second) refl refl refl e
  where
    order : (a b c : Bool) → nat_lt one.first other.first ≡ a → nat_eq one.first other.first ≡ b → nat_lt one.second other.second ≡ c → a || (b && c) ≡ true → Comes one other
    order true b c e f g h = inl (ltb-true one.first other.first e)
    order false true true e f g h = inr (eqb-true one.first other.first f, (let lt = ltb-true one.second other.second g in omega arith))
    order false true false e f g h = absurd (cc)
    order false false c e f g h = absurd (cc)

comes_no_sooner : (one other : Twice) → is_sooner one other ≡ false → Comes other one
comes_no_sooner one other e = order (nat_lt one.first other.first) (nat_eq one.first other.first) (nat_lt one.second other.second) refl refl refl e
  where
    order : (a b c : Bool) → nat_lt one.first other.first ≡ a → nat_eq one.first other.first ≡ b → nat_lt one.second other.second ≡ c → a || (b && c) ≡ false → Comes other one
    order true b c e f g h = absurd (cc)
    order false true true e f g h = absurd (cc)
    order false true false e f g h = inr (sym (eqb-true one.first other.first f), ltb-false one.second other.second g)
    order false false c e f g h = elim (cases_lt other.first one.first) [
      | inl lt ↦ inl lt
      | inr le ↦ (let no = ltb-false one.first other.first e in let same : one.first ≡ other.first = omega arith in
          let t : true ≡ false = sym (eq-eqb one.first other.first same) ∙ f in absurd (cc))
    ]

-- One leaf more

-- what is found of an event
abbrev pub IsFoundOf : Labelled → ℕ → Option Twice → Type 0
IsFoundOf t event found = MatchOption found (HoldsNoneOf t event) (IsFirstOf t event)

module _ (t : Labelled) (leaf : ℕ) where
  -- where no event comes again with the leaf, the same is found
  pub found_without : (found : Option Twice) → IsRepeated t leaf None → IsFoundBefore t leaf found → IsFoundBefore t (leaf + 1) found
  found_without found repeated h = kept found h
    where
      before : (event : ℕ) → StandsAgain t (leaf + 1) event → StandsAgain t leaf event
      before event again = elim (repeated event again) [ inl h ↦ h | inr e ↦ (let f : None ≡ Some event = e in absurd (cc)) ]

      kept : (found : Option Twice) → IsFoundBefore t leaf found → IsFoundBefore t (leaf + 1) found
      kept None none = λ event again. none event (before event again)
      kept (Some f) is = record { twice = is.twice; least = λ event x y again h. is.least event x y (before event again) h }

  -- where one does, what is found of that event counts too
  pub found_with : (event : ℕ) (found other : Option Twice) → IsRepeated t leaf (Some event) → IsFoundBefore t leaf found → IsFoundOf t event other →
      IsFoundBefore t (leaf + 1) (sooner found other)
  found_with event found other repeated h k = joined found other h k
    where
      before : (e : ℕ) → StandsAgain t (leaf + 1) e → StandsAgain t leaf e ⊎ (event ≡ e)
      before e again = elim (repeated e again) [ inl h ↦ inl h | inr f ↦ inr (same_Some event e f) ]

      of_both : (x : Twice) → ((e v w : ℕ) → StandsAgain t leaf e → HoldsTwice t e v w → IsSooner x.first x.second v w) →
          ((v w : ℕ) → HoldsTwice t event v w → IsSooner x.first x.second v w) → (e v w : ℕ) → StandsAgain t (leaf + 1) e → HoldsTwice t e v w → IsSooner x.first x.second v w
      of_both x held next e v w again h = elim (before e again) [ inl p ↦ held e v w p h | inr same ↦ next v w (subst (λ n. HoldsTwice t n v w) (sym same) h) ]

      chosen : (f o : Twice) → IsFirstBefore t leaf f → IsFirstOf t event o → (b : Bool) → is_sooner o f ≡ b → IsFoundBefore t (leaf + 1) (cond b (Some o) (Some f))
      chosen f o h k true is = record {
        twice = k.twice;
        least = of_both o (λ e v w again pair. then_sooner o f v w (comes_first o f is) (h.least e v w again pair)) k.least;
      }
      chosen f o h k false is = record {
        twice = h.twice;
        least = of_both f h.least (λ v w pair. then_sooner f o v w (comes_no_sooner o f is) (k.least v w pair));
      }

      joined : (found other : Option Twice) → IsFoundBefore t leaf found → IsFoundOf t event other → IsFoundBefore t (leaf + 1) (sooner found other)
      joined None None none more = λ e again. elim (before e again) [ inl p ↦ none e p | inr same ↦ subst (HoldsNoneOf t) same more ]
      joined None (Some o) none is = record { twice = is.twice; least = of_both o (λ e v w again pair. absurd (none e again v w pair)) is.least }
      joined (Some f) None is none = record { twice = is.twice; least = of_both f is.least (λ v w pair. absurd (none v w pair)) }
      joined (Some f) (Some o) is next = chosen f o is next (is_sooner o f) refl

  -- one that no execution holds twice does not count
  pub found_besides : (event : ℕ) (found : Option Twice) → IsRepeated t leaf (Some event) → HoldsNoneOf t event → IsFoundBefore t leaf found → IsFoundBefore t (leaf + 1) found
  found_besides event None repeated none h = found_with event None None repeated h none
  found_besides event (Some f) repeated none h = found_with event (Some f) None repeated h none

-- The first pair of all

pub not_unique : (t : Labelled) (event x y : ℕ) → HoldsTwice t event x y → ¬ (HoldsNoneTwice t)
not_unique t event x y h unique =
    let (trace, u, mx, my) = h.together in
    let same : x ≡ y = same_source (event_at t.labels) trace (unique trace u) x y event mx my h.at_first h.at_second in
    let lt : x < y = h.apart in omega arith

-- a leaf with an event is one of the goal
pub event_within : (labels : List Label) (leaf event : ℕ) → event_at labels leaf ≡ Some event → leaf < length labels
event_within [] leaf event e = absurd (cc)
event_within (label ∷ labels) zero event e = omega arith
event_within (label ∷ labels) (suc leaf) event e = let h = event_within labels leaf event e in omega (arith, h)

-- the event of a pair stands twice
stands : (t : Labelled) (event x y : ℕ) → HoldsTwice t event x y → StandsAgain t (length t.labels) event
stands t event x y h = (x, y, h.apart, event_within t.labels y event h.at_second, h.at_first, h.at_second)

unique : (t : Labelled) → IsNumbered t.process (length t.labels) → ((event x y : ℕ) → ¬ (HoldsTwice t event x y)) → HoldsNoneTwice t
unique t whole none =
    let w : Schema = record { goal = t.process; labels = t.labels; rules = []; facts = []; notes = [] } in
    unique_events w whole (λ x y e h at also. none e x y (pair_of_together t whole e x y h at also))

pub found_none : (t : Labelled) → IsNumbered t.process (length t.labels) → (found : Option Twice) → IsFoundBefore t (length t.labels) found → IsNone found ↔ HoldsNoneTwice t
found_none t whole None none = ((λ e. unique t whole (λ event x y h. none event (stands t event x y h) x y h)), (λ u. refl))
found_none t whole (Some f) is = ((λ e. absurd (true≢false e)), (λ u. absurd (not_unique t f.event f.first f.second is.twice u)))

pub found_some : (t : Labelled) (found : Option Twice) → IsFoundBefore t (length t.labels) found → IfSome found (IsFirstTwice t)
found_some t None none = tt
found_some t (Some f) is = record { twice = is.twice; least = λ event x y h. is.least event x y (stands t event x y h) h }
