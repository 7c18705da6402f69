-- What a goal has of the events of a batch.
use Rattle.std.proofs.Common.{◌≡◌, ◌<◌, ℕ, zero, suc, ◌/◌, ◌%◌, ◌^◌, Bool, true, false, cond, nat_eq, List, Some, get_or, slice_get, bit_and, bit_or, refl, sym, ◌∙◌, ap, subst, length, arith}
use Rattle.std.proofs.Math.Nat.{mod-lt}
use Rattle.std.proofs.lemmas.Bool.{eq-eqb}
use Rattle.std.proofs.lemmas.Nat.Bits.{bit_at_and, bit_at_or, bit_at-pow_same, shr_and_one}
use Rattle.std.specs.Int.{bit_at}
use Rattle.flow_laws.proofs.WaysLemmas.{event_from_test}
use Rattle.flow_model.specs.Facts.{event_at}
use Rattle.flow_model.specs.Process.{Process, Empty, Task, Sequence, Parallel, Choice, Isolated, IsNumbered}
use Rattle.flow_goal.specs.declared.batches.Batches.{Batches}
use Rattle.flow_goal.specs.declared.batches.Seen.{Seen}
use Rattle.flow_goal.specs.declared.occurrence.Occurrence.{Occurrence}
use Rattle.flow_goal.specs.declared.occurrence.Occurrence.TheVariants.{Never, Once, Again}
use Rattle.flow_goal.specs.Batches as batches
use Rattle.flow_goal.specs.Batches.{AreBatchesOf, bit_of, place_of, seen_in}
use Rattle.flow_goal.specs.Labelled.{Labelled}
use Rattle.flow_goal.specs.Occurrences.{in_both, in_choice, occurrence_in}
use Rattle.flow_goal.specs.Repeats.{HoldsNoneOf}
use Rattle.flow_goal.proofs.Repetitions.{none_never, none_once, passes}

-- the bit is set
abbrev Has : ℕ → ℕ → Type 0
Has j w = 0 < bit_at w j

or_left : (j a b : ℕ) → Has j a → Has j (bit_or a b)
or_left j a b h = omega (arith, bit_at_or a b j)

or_right : (j a b : ℕ) → Has j b → Has j (bit_or a b)
or_right j a b h = omega (arith, bit_at_or a b j)

and_both : (j a b : ℕ) → Has j a → Has j b → Has j (bit_and a b)
and_both j a b h k = omega (arith, bit_at_and a b j)

-- the bit says what the leaves with the event come to, or more
abbrev Marks : ℕ → Occurrence → Seen → Type 0
Marks j Never s = Unit {0}
Marks j (Once n) s = Has j s.some
Marks j (Again n x y) s = Has j s.some × Has j s.again

module _ (j : ℕ) (l r : Seen) where
  again_right : Has j r.again → Has j (batches.in_both l r).again
  again_right h = or_left j (bit_or l.again r.again) (bit_and l.some r.some) (or_right j l.again r.again h)

  again_left : Has j l.again → Has j (batches.in_both l r).again
  again_left h = or_left j (bit_or l.again r.again) (bit_and l.some r.some) (or_left j l.again r.again h)

  again_here : Has j l.some → Has j r.some → Has j (batches.in_both l r).again
  again_here h k = or_right j (bit_or l.again r.again) (bit_and l.some r.some) (and_both j l.some r.some h k)

  either_again : (b : Bool) (n x y v w : ℕ) (s : Seen) → Has j s.some × Has j s.again → Marks j (cond b (Again n x y) (Again n v w)) s
  either_again true n x y v w s h = h
  either_again false n x y v w s h = h

  marks_both : (one two : Occurrence) → Marks j one l → Marks j two r → Marks j (in_both one two) (batches.in_both l r)
  marks_both Never Never h k = tt
  marks_both Never (Once m) h k = or_right j l.some r.some k
  marks_both Never (Again m x y) h k = (or_right j l.some r.some k.0, again_right k.1)
  marks_both (Once n) Never h k = or_left j l.some r.some h
  marks_both (Once n) (Once m) h k = (or_left j l.some r.some h, again_here h k)
  marks_both (Once n) (Again m x y) h k = (or_left j l.some r.some h, again_here h k.0)
  marks_both (Again n x y) Never h k = (or_left j l.some r.some h.0, again_left h.1)
  marks_both (Again n x y) (Once m) h k = either_again (nat_eq x n) n x y n m (batches.in_both l r) (or_left j l.some r.some h.0, again_left h.1)
  marks_both (Again n x y) (Again m v w) h k = either_again (nat_eq x n) n x y n m (batches.in_both l r) (or_left j l.some r.some h.0, again_left h.1)

  marks_choice : (one two : Occurrence) → Marks j one l → Marks j two r → Marks j (in_choice one two) (batches.in_choice l r)
  marks_choice Never Never h k = tt
  marks_choice Never (Once m) h k = or_right j l.some r.some k
  marks_choice Never (Again m x y) h k = (or_right j l.some r.some k.0, or_right j l.again r.again k.1)
  marks_choice (Once n) Never h k = or_left j l.some r.some h
  marks_choice (Once n) (Once m) h k = or_left j l.some r.some h
  marks_choice (Once n) (Again m x y) h k = (or_left j l.some r.some h, or_right j l.again r.again k.1)
  marks_choice (Again n x y) two h k = (or_left j l.some r.some h.0, or_left j l.again r.again h.1)

module _ (t : Labelled) (places : List ℕ) (event place : ℕ) (at : slice_get places event ≡ Some place) where
  abbrev bit : ℕ → ℕ
  bit n = bit_of (place_of places (event_at t.labels n)) (place / 64)

  marks_leaf : (n : ℕ) (b : Bool) → passes t event n ≡ b → Marks (place % 64) (cond b (Once n) Never) (seen_in bit (Task n))
  marks_leaf n true e =
      let here : event_at t.labels n ≡ Some event = event_from_test event (event_at t.labels n) e in
      let is : bit n ≡ 2 ^ (place % 64) = ap (λ o. bit_of (place_of places o) (place / 64)) here ∙ ap (λ o. bit_of o (place / 64)) at
      ∙ ap (λ b. cond b (2 ^ (place % 64)) 0) (eq-eqb (place / 64) (place / 64) refl) in
      subst (λ w. 0 < bit_at w (place % 64)) (sym is) (omega (arith, bit_at-pow_same (place % 64)))
  marks_leaf n false e = tt

  marks : (g : Process) → Marks (place % 64) (occurrence_in (passes t event) g) (seen_in bit g)
  marks Empty = tt
  marks (Task n) = marks_leaf n (passes t event n) refl
  marks (Sequence a b) = marks_both (place % 64) (seen_in bit a) (seen_in bit b) (occurrence_in (passes t event) a) (occurrence_in (passes t event) b) (marks a) (marks b)
  marks (Parallel a b) = marks_both (place % 64) (seen_in bit a) (seen_in bit b) (occurrence_in (passes t event) a) (occurrence_in (passes t event) b) (marks a) (marks b)
  marks (Choice a b) = marks_choice (place % 64) (seen_in bit a) (seen_in bit b) (occurrence_in (passes t event) a) (occurrence_in (passes t event) b) (marks a) (marks b)
  marks (Isolated a) = marks a

  none_by : IsNumbered t.process (length t.labels) → bit_at (seen_in bit t.process).again (place % 64) ≡ 0 → (o : Occurrence) → o ≡ occurrence_in (passes t event) t.process →
      Marks (place % 64) o (seen_in bit t.process) → HoldsNoneOf t event
  none_by whole none Never e h = none_never t whole event e
  none_by whole none (Once n) e h = none_once t whole event n e
  none_by whole none (Again n x y) e h = λ v w pair. absurd (omega (arith, none, h.1))

  -- where the bit is not set, no execution holds the event twice
  pub none_twice : IsNumbered t.process (length t.labels) → bit_at (seen_in bit t.process).again (place % 64) ≡ 0 → HoldsNoneOf t event
  none_twice whole none = none_by whole none (occurrence_in (passes t event) t.process) refl (marks t.process)

not_set : (n : ℕ) → n < 2 → (b : Bool) → nat_eq n 1 ≡ b → b ≡ false → n ≡ 0
not_set n less true e f = absurd (cc)
not_set zero less false e f = refl
not_set (suc zero) less false e f = absurd (cc)
not_set (suc (suc n)) less false e f = absurd (omega arith)

pub none_of_batch : (t : Labelled) → IsNumbered t.process (length t.labels) → (b : Batches) → AreBatchesOf t b → (event place : ℕ) →
    slice_get b.places.items event ≡ Some place → place / 64 < length b.again.items →
    nat_eq (bit_and (get_or b.again.items (place / 64) 0 / 2 ^ (place % 64)) 1) 1 ≡ false → HoldsNoneOf t event
none_of_batch t whole b are event place at within unset =
    let word = get_or b.again.items (place / 64) 0 in
    let none : bit_at word (place % 64) ≡ 0 = not_set (bit_at word (place % 64)) (mod-lt (word / 2 ^ (place % 64)) (omega arith))
    (nat_eq (bit_at word (place % 64)) 1) refl (sym (ap (λ n. nat_eq n 1) (shr_and_one word (place % 64))) ∙ unset) in
    none_twice t b.places.items event place at whole (ap (λ w. bit_at w (place % 64)) (sym (are (place / 64) within)) ∙ none)
