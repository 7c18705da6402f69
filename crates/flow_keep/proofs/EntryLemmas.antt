-- An entry is told by its bytes.
use Rattle.std.proofs.Common.{◌≡◌, ℕ, ◌+◌, ◌*◌, ◌^◌, ◌<◌, List, get_or, Some, refl, sym, ap, ◌∙◌, arith}
use Rattle.std.proofs.lemmas.Nat.{from_be_bytes-to_be_bytes_4}
use Rattle.flow_model.specs.declared.history.Entry.{Entry}
use Rattle.flow_model.specs.declared.history.Step.{Step}
use Rattle.flow_model.specs.declared.history.Step.TheVariants.{Took, Done, Failed, Late, Did, Rewound, Committed}
use Rattle.flow_model.specs.declared.history.FailEffect.TheVariants.{Switched, Kept}
use Rattle.flow_record.specs.History.{IsSmall, HasSmallNumbers}
use Rattle.flow_keep.specs.Records.{kind_of, first_of, second_of, step_of, body_of}

-- the step is told by its kind and its numbers
pub step_again : (step : Step) → step_of (kind_of step) (first_of step) (second_of step) ≡ Some step
step_again (Took claim leaf) = refl
step_again (Done claim) = refl
step_again (Failed claim Switched) = refl
step_again (Failed claim Kept) = refl
step_again (Late claim) = refl
step_again (Did leaf) = refl
step_again (Rewound index) = refl
step_again Committed = refl

pub small_first : (step : Step) → HasSmallNumbers step → first_of step < 2 ^ 32
small_first (Took claim leaf) h = h.0
small_first (Done claim) h = h
small_first (Failed claim effect) h = h
small_first (Late claim) h = h
small_first (Did leaf) h = h
small_first (Rewound index) h = h
small_first Committed h = omega arith

pub small_second : (step : Step) → HasSmallNumbers step → second_of step < 2 ^ 32
small_second (Took claim leaf) h = h.1
small_second (Done claim) h = omega arith
small_second (Failed claim effect) h = omega arith
small_second (Late claim) h = omega arith
small_second (Did leaf) h = omega arith
small_second (Rewound index) h = omega arith
small_second Committed h = omega arith

pub small_numbers : (step : Step) → first_of step < 2 ^ 32 → second_of step < 2 ^ 32 → HasSmallNumbers step
small_numbers (Took claim leaf) p q = (p, q)
small_numbers (Done claim) p q = p
small_numbers (Failed claim effect) p q = p
small_numbers (Late claim) p q = p
small_numbers (Did leaf) p q = p
small_numbers (Rewound index) p q = p
small_numbers Committed p q = tt

-- the number of four bytes, the high one first
abbrev pub word : List ℕ → ℕ → ℕ → ℕ → ℕ → ℕ
word body a b c d = get_or body a 0 * 16777216 + get_or body b 0 * 65536 + get_or body c 0 * 256 + get_or body d 0

-- the numbers of a record's bytes
abbrev pub caller_in : List ℕ → ℕ
caller_in body = word body 3 4 5 6

abbrev pub first_in : List ℕ → ℕ
first_in body = word body 7 8 9 10

abbrev pub second_in : List ℕ → ℕ
second_in body = word body 11 12 13 14

pub caller_again : (entry : Entry) → IsSmall entry → caller_in (body_of entry) ≡ entry.by
caller_again entry small = from_be_bytes-to_be_bytes_4 entry.by small.0

pub first_again : (entry : Entry) → IsSmall entry → first_in (body_of entry) ≡ first_of entry.step
first_again entry small = from_be_bytes-to_be_bytes_4 (first_of entry.step) (small_first entry.step small.1)

pub second_again : (entry : Entry) → IsSmall entry → second_in (body_of entry) ≡ second_of entry.step
second_again entry small = from_be_bytes-to_be_bytes_4 (second_of entry.step) (small_second entry.step small.1)

some_is : (x y : Step) → Some x ≡ Some y → x ≡ y
some_is x y e = cc

-- two entries with the same bytes are one
pub same_entry : (a b : Entry) → IsSmall a → IsSmall b → body_of a ≡ body_of b → a ≡ b
same_entry a b p q same =
    let callers : a.by ≡ b.by = sym (caller_again a p) ∙ ap caller_in same ∙ caller_again b q in
    let firsts : first_of a.step ≡ first_of b.step = sym (first_again a p) ∙ ap first_in same ∙ first_again b q in
    let seconds : second_of a.step ≡ second_of b.step = sym (second_again a p) ∙ ap second_in same ∙ second_again b q in
    let kinds : kind_of a.step ≡ kind_of b.step = ap (λ (l : List ℕ). get_or l 0 0) same in
    let told : Some a.step ≡ Some b.step = sym (step_again a.step) ∙ (λ i. step_of (kinds i) (firsts i) (seconds i)) ∙ step_again b.step in
    let steps : a.step ≡ b.step = some_is a.step b.step told in
    λ i. record { by = callers i; step = steps i }

-- the bytes of what was read from the bytes of an entry are these
pub read_again : (body : List ℕ) (by first second : ℕ) (step : Step) (entry : Entry) → IsSmall entry → body_of entry ≡ body → by ≡ caller_in body → first ≡ first_in body → second ≡ second_in body →
    step_of (get_or body 0 0) first second ≡ Some step → body_of (record { by = by; step = step }) ≡ body
read_again body by first second step entry small is by_is first_is second_is told =
    let callers : by ≡ entry.by = by_is ∙ ap caller_in (sym is) ∙ caller_again entry small in
    let firsts : first ≡ first_of entry.step = first_is ∙ ap first_in (sym is) ∙ first_again entry small in
    let seconds : second ≡ second_of entry.step = second_is ∙ ap second_in (sym is) ∙ second_again entry small in
    let kinds : get_or body 0 0 ≡ kind_of entry.step = ap (λ (l : List ℕ). get_or l 0 0) (sym is) in
    let steps : step ≡ entry.step = some_is step entry.step (sym told ∙ (λ i. step_of (kinds i) (firsts i) (seconds i)) ∙ step_again entry.step) in
    (λ i. body_of (record { by = callers i; step = steps i })) ∙ is
