-- The flags of a row of bits: how many there are, which are set, and what becomes of them as one bit changes.
use Rattle.std.proofs.Common.{◌≡◌, ℕ, ◌-◌, ◌*◌, ◌/◌, ◌%◌, ◌^◌, ◌<◌, ◌≤◌, Bool, true, false, ◌==◌, ◌&&◌, ◌||◌, not, cond, List, length, get_or, set, refl, sym, ap, ◌∙◌, ⊎_elim, arith, bit_and, bit_or, zero-add, length-set, replicate}
use Rattle.std.proofs.lemmas.Bool.{cases_lt, ne_eqb}
use Rattle.std.proofs.lemmas.List.{get_or_past, get_or_default, length-replicate}
use Rattle.std.proofs.lemmas.List.FromFn.{get_or-map-range_with_len, length-map-range_with_len}
use Rattle.leaf_rows.specs.Leaves.{has_bit}
use Rattle.leaf_rows.proofs.Rows.{has_bit_empty, has_bit_insert, has_bit_remove, has_bit_shift}
use Rattle.flow_facts.specs.Held.{is_held, flags_of}

pub length-flags_of : (count : ℕ) (words : List ℕ) → length (flags_of count words) ≡ count
unfolding flags_of
length-flags_of count words = length-map-range_with_len (has_bit (length words) words) 0 count

pub is_held-within : (count : ℕ) (words : List ℕ) (n : ℕ) → n < count → is_held (flags_of count words) n ≡ has_bit (length words) words n
unfolding flags_of
is_held-within count words n within = get_or-map-range_with_len (has_bit (length words) words) 0 count n n false within (zero-add n)

pub is_held-past : (count : ℕ) (words : List ℕ) (n : ℕ) → count ≤ n → is_held (flags_of count words) n ≡ false
is_held-past count words n past = get_or_past (flags_of count words) n false (omega (arith, length-flags_of count words))

pub is_held-empty : (count size n : ℕ) → is_held (flags_of count (replicate size 0)) n ≡ false
is_held-empty count size n = ⊎_elim
    (λ within. is_held-within count (replicate size 0) n within ∙ ap (λ w. has_bit w (replicate size 0) n) (length-replicate size 0) ∙ has_bit_empty size n)
    (λ past. is_held-past count (replicate size 0) n past)
    (cases_lt n count)

-- where one bit of the row was made so
is_held-changed : (count : ℕ) (words changed : List ℕ) (flags : List Bool) (fact n : ℕ) (held : Bool)
    → flags_of count words ≡ flags → length changed ≡ length words → fact < length flags
    → (n < count → has_bit (length words) changed n ≡ cond (n == fact) held (has_bit (length words) words n))
    → is_held (flags_of count changed) n ≡ cond (n == fact) held (is_held flags n)
is_held-changed count words changed flags fact n held are same within bit =
    let as_many : length flags ≡ count = ap length (sym are) ∙ length-flags_of count words in
    ⊎_elim
    (λ below. is_held-within count changed n below ∙ ap (λ w. has_bit w changed n) same ∙ bit below
    ∙ ap (λ b. cond (n == fact) held b) (sym (is_held-within count words n below) ∙ ap (λ f. is_held f n) are))
    (λ past. is_held-past count changed n past ∙ sym (get_or_past flags n false (omega arith))
    ∙ ap (λ b. cond b held (is_held flags n)) (sym (ne_eqb n fact (omega arith))))
    (cases_lt n count)

or_chosen : (a b : Bool) → (a || b) ≡ cond a true b
or_chosen true b = refl
or_chosen false b = refl

and_chosen : (a b : Bool) → (not a && b) ≡ cond a false b
and_chosen true b = refl
and_chosen false b = refl

-- after `insert`
pub is_held-insert : (count : ℕ) (words : List ℕ) (flags : List Bool) (fact word n : ℕ)
    → flags_of count words ≡ flags → count ≤ 64 * length words → fact < length flags → word ≡ get_or words (fact / 64) word
    → is_held (flags_of count (set words (fact / 64) (bit_or word (1 * 2 ^ (fact % 64) % 2 ^ 64)))) n
    ≡ cond (n == fact) true (is_held flags n)
is_held-insert count words flags fact word n are room within is =
    let as_many : length flags ≡ count = ap length (sym are) ∙ length-flags_of count words in
    let at_zero : word ≡ get_or words (fact / 64) 0 = is ∙ get_or_default words (fact / 64) word 0 (omega arith) in
    is_held-changed count words _ flags fact n true are (length-set words (fact / 64) _) within
    (λ _. ap (λ v. has_bit (length words) (set words (fact / 64) (bit_or v (1 * 2 ^ (fact % 64) % 2 ^ 64))) n) at_zero
    ∙ has_bit_insert (length words) words fact n refl (omega arith) ∙ or_chosen (n == fact) _)

-- after `delete`
pub is_held-delete : (count : ℕ) (words : List ℕ) (flags : List Bool) (fact word n : ℕ)
    → flags_of count words ≡ flags → count ≤ 64 * length words → fact < length flags → word ≡ get_or words (fact / 64) word
    → is_held (flags_of count (set words (fact / 64) (bit_and word (2 ^ 64 - 1 - 1 * 2 ^ (fact % 64) % 2 ^ 64)))) n
    ≡ cond (n == fact) false (is_held flags n)
is_held-delete count words flags fact word n are room within is =
    let as_many : length flags ≡ count = ap length (sym are) ∙ length-flags_of count words in
    let at_zero : word ≡ get_or words (fact / 64) 0 = is ∙ get_or_default words (fact / 64) word 0 (omega arith) in
    is_held-changed count words _ flags fact n false are (length-set words (fact / 64) _) within
    (λ _. ap (λ v. has_bit (length words) (set words (fact / 64) (bit_and v (2 ^ 64 - 1 - 1 * 2 ^ (fact % 64) % 2 ^ 64))) n) at_zero
    ∙ has_bit_remove (length words) words fact n refl (omega arith) ∙ and_chosen (n == fact) _)

-- what `has` computes
pub is_held-shift : (count : ℕ) (words : List ℕ) (flags : List Bool) (fact word : ℕ)
    → flags_of count words ≡ flags → count ≤ 64 * length words → fact < length flags → word ≡ get_or words (fact / 64) word
    → (bit_and (word / 2 ^ (fact % 64)) 1 == 1) ≡ is_held flags fact
is_held-shift count words flags fact word are room within is =
    let as_many : length flags ≡ count = ap length (sym are) ∙ length-flags_of count words in
    let at_zero : word ≡ get_or words (fact / 64) 0 = is ∙ get_or_default words (fact / 64) word 0 (omega arith) in
    ap (λ v. bit_and (v / 2 ^ (fact % 64)) 1 == 1) at_zero ∙ has_bit_shift (length words) words fact (omega arith)
    ∙ sym (is_held-within count words fact (omega arith)) ∙ ap (λ f. is_held f fact) are
