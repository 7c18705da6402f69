-- What one bit of a row is after a word of it changed, and what a test of words says of bits.
use Rattle.std.proofs.Common.{◌≡◌, ◌≢◌, ℕ, ◌+◌, ◌-◌, ◌*◌, ◌/◌, ◌%◌, ◌^◌, ◌<◌, ◌≤◌, Bool, true, false, not, ◌==◌, ◌&&◌, ◌||◌, nat_lt, List, length, get_or, set, refl, sym, ap, ◌∙◌, ⊎_elim, arith, lit<, min, max, bit_and, bit_or, w64, replicate, get_or-set_same, get_or-set_other}
use Rattle.std.proofs.lemmas.Bool.{cases_eq, cases_lt, lt-ltb, le-ltb, ltb-true, eq-eqb, ne_eqb, eqb-true, and_from, and_parts, false_from_ne_true, or_left}
use Rattle.std.proofs.lemmas.Nat.Bits.{bit_at_set_same, bit_at_set_other, bit_at_clear_same, bit_at_clear_other, bit_at_and, bit_at_or, bit_at_not, bit_at-lt, bit_at-zero, same_from_bits_below, bit_at-trailing_zeros, shr_and_one}
use Rattle.std.proofs.lemmas.Bool.Decides.{nat_tests}
use Rattle.std.proofs.lemmas.List.{get_or-replicate, get_or_past}
use Rattle.std.proofs.lemmas.Nat.{and_le_l}
use Rattle.std.specs.Int.{bit_at, bit_not, trailing_zeros}
use Rattle.std.proofs.Math.Bool.{or-false}
use Rattle.std.specs.Prelude.{◌↔◌, Option, Some, None, IsTrue, IfNone, IfSome, is_some}
use Rattle.std.proofs.lemmas.Bool.{false≢true}
use Rattle.leaf_rows.specs.Leaves.{has_bit}

-- the bit of a row that stands for n
abbrev pub bit_of : List ℕ → ℕ → ℕ
bit_of words n = bit_at (get_or words (n / 64) 0) (n % 64)

-- a bit that is set within the row is one that the row has
pub has_bit-one : (w : ℕ) (words : List ℕ) (n : ℕ) → n < 64 * w → bit_of words n ≡ 1 → has_bit w words n ≡ true
unfolding has_bit
has_bit-one w words n within set_there = and_from _ _ (lt-ltb n (64 * w) within) (eq-eqb (bit_of words n) 1 set_there)

-- a bit that the row has stands within it, and is set
pub has_bit-parts : (w : ℕ) (words : List ℕ) (n : ℕ) → has_bit w words n ≡ true → (n < 64 * w) × (bit_of words n ≡ 1)
unfolding has_bit
has_bit-parts w words n has =
    let parts = and_parts (nat_lt n (64 * w)) (bit_of words n == 1) has in
    (ltb-true n (64 * w) parts.0, eqb-true (bit_of words n) 1 parts.1)

-- a bit that is not set is one that the row has not
pub has_bit-zero : (w : ℕ) (words : List ℕ) (n : ℕ) → bit_of words n ≡ 0 → has_bit w words n ≡ false
has_bit-zero w words n clear = false_from_ne_true (has_bit w words n)
    (λ has. let one : bit_of words n ≡ 1 = (has_bit-parts w words n has).1 in omega arith)

-- within the row the bit is the test
pub has_bit-is : (w : ℕ) (words : List ℕ) (n : ℕ) → n < 64 * w → has_bit w words n ≡ (bit_of words n == 1)
unfolding has_bit
has_bit-is w words n within = ap (λ t. t && (bit_of words n == 1)) (lt-ltb n (64 * w) within)

-- a row has no bit past its end
pub has_bit-past : (w : ℕ) (words : List ℕ) (n : ℕ) → 64 * w ≤ n → has_bit w words n ≡ false
unfolding has_bit
has_bit-past w words n past = rw (le-ltb n (64 * w) past) refl

-- rows with the same bit within them have it both or neither
pub has_bit-same : (w : ℕ) (words words' : List ℕ) (n : ℕ) → (n < 64 * w → bit_of words n ≡ bit_of words' n)
    → has_bit w words n ≡ has_bit w words' n
unfolding has_bit
has_bit-same w words words' n same = ⊎_elim
    (λ within. ap (λ b. nat_lt n (64 * w) && (b == 1)) (same within))
    (λ past. rw (le-ltb n (64 * w) past) refl)
    (cases_lt n (64 * w))

-- ---- one word changed

-- the bit that stands for n, after the word that has it became v
pub bit_of-put_same : (words : List ℕ) (n v : ℕ) → n / 64 < length words → bit_of (set words (n / 64) v) n ≡ bit_at v (n % 64)
bit_of-put_same words n v within = ap (λ word. bit_at word (n % 64)) (get_or-set_same words (n / 64) v 0 within)

-- any other bit, where v keeps those of its word
pub bit_of-put_other : (words : List ℕ) (n v k : ℕ) → n / 64 < length words → k ≢ n
    → ((i : ℕ) → i < 64 → i ≢ n % 64 → bit_at v i ≡ bit_at (get_or words (n / 64) 0) i)
    → bit_of (set words (n / 64) v) k ≡ bit_of words k
bit_of-put_other words n v k within other keeps = ⊎_elim
    (λ same_word.
    let differs : k % 64 ≢ n % 64 = λ same_place. other (omega arith) in
    ap (λ word. bit_at (get_or (set words (n / 64) v) word 0) (k % 64)) same_word
    ∙ ap (λ word. bit_at word (k % 64)) (get_or-set_same words (n / 64) v 0 within)
    ∙ keeps (k % 64) (omega arith) differs
    ∙ ap (λ word. bit_at (get_or words word 0) (k % 64)) (sym same_word))
    (λ other_word. ap (λ word. bit_at word (k % 64)) (get_or-set_other words (n / 64) (k / 64) v 0 other_word))
    (cases_eq (k / 64) (n / 64))

-- after `insert`
pub has_bit_insert : (w : ℕ) (words : List ℕ) (n k : ℕ) → length words ≡ w → n < 64 * w
    → has_bit w (set words (n / 64) (bit_or (get_or words (n / 64) 0) (1 * 2 ^ (n % 64) % 2 ^ 64))) k
    ≡ (k == n || has_bit w words k)
has_bit_insert w words n k long within =
    let v : ℕ = bit_or (get_or words (n / 64) 0) (1 * 2 ^ (n % 64) % 2 ^ 64) in
    let in_words : n / 64 < length words = omega arith in
    let in_word : n % 64 < 64 = omega arith in
    ⊎_elim
    (λ same. rw same (has_bit-one w (set words (n / 64) v) n within
    (bit_of-put_same words n v in_words ∙ bit_at_set_same w64 (get_or words (n / 64) 0) (n % 64) in_word)
    ∙ sym (or_left (n == n) (has_bit w words n) (eq-eqb n n refl))))
    (λ other. has_bit-same w (set words (n / 64) v) words k
    (λ _. bit_of-put_other words n v k in_words other (λ i _ differs. bit_at_set_other w64 (get_or words (n / 64) 0) (n % 64) in_word i differs))
    ∙ ap (λ b. b || has_bit w words k) (sym (ne_eqb k n other)))
    (cases_eq k n)

-- after `remove`
pub has_bit_remove : (w : ℕ) (words : List ℕ) (n k : ℕ) → length words ≡ w → n < 64 * w
    → has_bit w (set words (n / 64) (bit_and (get_or words (n / 64) 0) (2 ^ 64 - 1 - 1 * 2 ^ (n % 64) % 2 ^ 64))) k
    ≡ (not (k == n) && has_bit w words k)
has_bit_remove w words n k long within =
    let v : ℕ = bit_and (get_or words (n / 64) 0) (2 ^ 64 - 1 - 1 * 2 ^ (n % 64) % 2 ^ 64) in
    let in_words : n / 64 < length words = omega arith in
    let in_word : n % 64 < 64 = omega arith in
    ⊎_elim
    (λ same. rw same (has_bit-zero w (set words (n / 64) v) n
    (bit_of-put_same words n v in_words ∙ bit_at_clear_same w64 (get_or words (n / 64) 0) (n % 64) in_word)
    ∙ ap (λ b. not b && has_bit w words n) (sym (eq-eqb n n refl))))
    (λ other. has_bit-same w (set words (n / 64) v) words k
    (λ _. bit_of-put_other words n v k in_words other (λ i within_word differs. bit_at_clear_other w64 (get_or words (n / 64) 0) (n % 64) in_word i within_word differs))
    ∙ ap (λ b. not b && has_bit w words k) (sym (ne_eqb k n other)))
    (cases_eq k n)

-- ---- every word changed

pub one_or : (a b : ℕ) → a < 2 → b < 2 → (max a b == 1) ≡ (a == 1 || b == 1)
one_or a b small_a small_b = grind (arith, nat_tests)

-- each of two tests within a range
pub within_or : (t a b : Bool) → (t && (a || b)) ≡ ((t && a) || (t && b))
within_or true a b = refl
within_or false a b = refl

-- after `union_with`
pub has_bit_union : (w : ℕ) (words other both : List ℕ) (n : ℕ)
    → (n < 64 * w → get_or both (n / 64) 0 ≡ bit_or (get_or words (n / 64) 0) (get_or other (n / 64) 0))
    → has_bit w both n ≡ (has_bit w words n || has_bit w other n)
unfolding has_bit
has_bit_union w words other both n joined = ⊎_elim
    (λ within.
    ap (λ b. nat_lt n (64 * w) && (b == 1))
    (ap (λ word. bit_at word (n % 64)) (joined within) ∙ bit_at_or (get_or words (n / 64) 0) (get_or other (n / 64) 0) (n % 64))
    ∙ ap (λ b. nat_lt n (64 * w) && b) (one_or (bit_of words n) (bit_of other n) (bit_at-lt _ _) (bit_at-lt _ _))
    ∙ within_or (nat_lt n (64 * w)) (bit_of words n == 1) (bit_of other n == 1))
    (λ past. rw (le-ltb n (64 * w) past) refl)
    (cases_lt n (64 * w))

without_digit : (mine yours : ℕ) → mine < 2 → yours < 2 → (min mine (1 - yours) == 1) ≡ (not (yours == 1) && mine == 1)
without_digit mine yours small_mine small_yours = grind (arith, nat_tests)

-- each of two tests within a range, the second turned
within_not : (t a b : Bool) → (t && (not b && a)) ≡ (not (t && b) && (t && a))
within_not true a b = refl
within_not false a b = refl

-- after `remove_all`
pub has_bit_without : (w : ℕ) (words other left : List ℕ) (n : ℕ)
    → (n < 64 * w → get_or left (n / 64) 0 ≡ bit_and (get_or words (n / 64) 0) (bit_not w64 (get_or other (n / 64) 0)))
    → (n < 64 * w → get_or other (n / 64) 0 < 2 ^ 64)
    → has_bit w left n ≡ (not (has_bit w other n) && has_bit w words n)
unfolding has_bit
has_bit_without w words other left n cleared fits = ⊎_elim
    (λ within.
    let there : n % 64 < 64 = omega arith in
    ap (λ b. nat_lt n (64 * w) && (b == 1))
    (ap (λ word. bit_at word (n % 64)) (cleared within)
    ∙ bit_at_and (get_or words (n / 64) 0) (bit_not w64 (get_or other (n / 64) 0)) (n % 64)
    ∙ ap (min (bit_of words n)) (bit_at_not w64 (get_or other (n / 64) 0) (n % 64) (fits within) there))
    ∙ ap (λ b. nat_lt n (64 * w) && b) (without_digit (bit_of words n) (bit_of other n) (bit_at-lt _ _) (bit_at-lt _ _))
    ∙ within_not (nat_lt n (64 * w)) (bit_of words n == 1) (bit_of other n == 1))
    (λ past. rw (le-ltb n (64 * w) past) refl)
    (cases_lt n (64 * w))

-- what `has` computes
pub has_bit_shift : (w : ℕ) (words : List ℕ) (n : ℕ) → n < 64 * w
    → (bit_and (get_or words (n / 64) 0 / 2 ^ (n % 64)) 1 == 1) ≡ has_bit w words n
unfolding has_bit
has_bit_shift w words n within =
    ap (λ b. b == 1) (shr_and_one (get_or words (n / 64) 0) (n % 64))
    ∙ sym (ap (λ t. t && (bit_of words n == 1)) (lt-ltb n (64 * w) within))

-- what `new` makes
pub has_bit_empty : (w n : ℕ) → has_bit w (replicate w 0) n ≡ false
has_bit_empty w n = ⊎_elim
    (λ within. has_bit-zero w (replicate w 0) n
    (ap (λ word. bit_at word (n % 64)) (get_or-replicate w (n / 64) 0 0 (omega arith)) ∙ bit_at-zero (n % 64)))
    (λ past. has_bit-past w (replicate w 0) n past)
    (cases_lt n (64 * w))

-- ---- tests of words

-- a bit by its word and its place there
pub bit_of-place : (words : List ℕ) (i j : ℕ) → j < 64 → bit_of words (64 * i + j) ≡ bit_at (get_or words i 0) j
bit_of-place words i j within =
    let word_is : (64 * i + j) / 64 ≡ i = omega arith in
    let place_is : (64 * i + j) % 64 ≡ j = omega arith in
    rw (word_is, place_is) refl

-- the least bit of a word is one that the row has
pub has_bit_least : (w : ℕ) (words : List ℕ) (i : ℕ) → i < w → get_or words i 0 ≢ 0 → get_or words i 0 < 2 ^ 64
    → has_bit w words (64 * i + trailing_zeros w64 (get_or words i 0)) ≡ true
has_bit_least w words i within not_zero fits =
    let least = bit_at-trailing_zeros w64 (get_or words i 0) (omega arith) fits in
    has_bit-one w words _ (omega (arith, least.0)) (bit_of-place words i _ least.0 ∙ least.1)

-- a bit in a word that is zero is not set
pub bit_of-zero_word : (words : List ℕ) (k : ℕ) → get_or words (k / 64) 0 ≡ 0 → bit_of words k ≡ 0
bit_of-zero_word words k zero_word = ap (λ word. bit_at word (k % 64)) zero_word ∙ bit_at-zero (k % 64)

-- no bit stands before the least one
pub has_bit_before_least : (w : ℕ) (words : List ℕ) (i : ℕ) → get_or words i 0 ≢ 0 → get_or words i 0 < 2 ^ 64
    → ((k : ℕ) → k < i → get_or words k 0 ≡ 0)
    → (k : ℕ) → k < 64 * i + trailing_zeros w64 (get_or words i 0) → has_bit w words k ≡ false
has_bit_before_least w words i not_zero fits zero_words k before =
    let least = bit_at-trailing_zeros w64 (get_or words i 0) (omega arith) fits in
    has_bit-zero w words k (⊎_elim
    (λ lower. bit_of-zero_word words k (zero_words (k / 64) lower))
    (λ at_i.
    let word_is : k / 64 ≡ i = omega (arith, least.0) in
    ap (λ word. bit_at (get_or words word 0) (k % 64)) word_is ∙ least.2 (k % 64) (omega arith))
    (cases_lt (k / 64) i))

-- no bit stands in words that are zero
pub has_bit_none : (w : ℕ) (words : List ℕ) → ((k : ℕ) → k < w → get_or words k 0 ≡ 0)
    → (k : ℕ) → has_bit w words k ≡ false
has_bit_none w words zero_words k = ⊎_elim
    (λ within. has_bit-zero w words k (bit_of-zero_word words k (zero_words (k / 64) (omega arith))))
    (λ past. has_bit-past w words k past)
    (cases_lt k (64 * w))

-- the least common bit of two words is one that both rows have
pub least_common : (w : ℕ) (words other : List ℕ) (i : ℕ) → i < w → get_or words i 0 < 2 ^ 64
    → bit_and (get_or words i 0) (get_or other i 0) ≢ 0
    → (has_bit w words (64 * i + trailing_zeros w64 (bit_and (get_or words i 0) (get_or other i 0))) ≡ true)
    × (has_bit w other (64 * i + trailing_zeros w64 (bit_and (get_or words i 0) (get_or other i 0))) ≡ true)
least_common w words other i within fits not_zero =
    let both : ℕ = bit_and (get_or words i 0) (get_or other i 0) in
    let least = bit_at-trailing_zeros w64 both (omega arith) (omega (arith, and_le_l (get_or words i 0) (get_or other i 0), fits)) in
    let at : ℕ = trailing_zeros w64 both in
    let ones : min (bit_at (get_or words i 0) at) (bit_at (get_or other i 0) at) ≡ 1
    = sym (bit_at_and (get_or words i 0) (get_or other i 0) at) ∙ least.1 in
    let small : bit_at (get_or words i 0) at < 2 = bit_at-lt _ _ in
    let small' : bit_at (get_or other i 0) at < 2 = bit_at-lt _ _ in (
      has_bit-one w words _ (omega (arith, least.0)) (bit_of-place words i at least.0 ∙ omega arith),
      has_bit-one w other _ (omega (arith, least.0)) (bit_of-place other i at least.0 ∙ omega arith),
    )

-- no bit before it is common
pub none_common_before : (w : ℕ) (words other : List ℕ) (i : ℕ) → get_or words i 0 < 2 ^ 64
    → bit_and (get_or words i 0) (get_or other i 0) ≢ 0
    → (k : ℕ) → (k / 64 < i → bit_and (get_or words (k / 64) 0) (get_or other (k / 64) 0) ≡ 0)
    → k < 64 * i + trailing_zeros w64 (bit_and (get_or words i 0) (get_or other i 0))
    → has_bit w words k ≡ true → has_bit w other k ≡ true → ⊥
none_common_before w words other i fits not_zero k apart before here there =
    let mine = has_bit-parts w words k here in
    let yours = has_bit-parts w other k there in
    let both : ℕ → ℕ = λ word. bit_and (get_or words word 0) (get_or other word 0) in
    let least = bit_at-trailing_zeros w64 (both i) (omega arith) (omega (arith, and_le_l (get_or words i 0) (get_or other i 0), fits)) in
    let none : bit_at (both (k / 64)) (k % 64) ≡ 0 = ⊎_elim
    (λ lower. ap (λ word. bit_at word (k % 64)) (apart lower) ∙ bit_at-zero (k % 64))
    (λ at_i.
    let word_is : k / 64 ≡ i = omega (arith, least.0) in
    ap (λ word. bit_at (both word) (k % 64)) word_is ∙ least.2 (k % 64) (omega arith))
    (cases_lt (k / 64) i) in
    let digits : min (bit_of words k) (bit_of other k) ≡ 0
    = sym (bit_at_and (get_or words (k / 64) 0) (get_or other (k / 64) 0) (k % 64)) ∙ none in
    omega (arith, mine.1, yours.1)

-- where two words have no common bit, no bit of theirs is common
pub no_common_bit : (w : ℕ) (words other : List ℕ) (k : ℕ) → bit_and (get_or words (k / 64) 0) (get_or other (k / 64) 0) ≡ 0
    → has_bit w words k ≡ true → has_bit w other k ≡ true → ⊥
no_common_bit w words other k apart here there =
    let mine = has_bit-parts w words k here in
    let yours = has_bit-parts w other k there in
    let both : min (bit_of words k) (bit_of other k) ≡ 0
    = sym (bit_at_and (get_or words (k / 64) 0) (get_or other (k / 64) 0) (k % 64))
    ∙ ap (λ word. bit_at word (k % 64)) apart ∙ bit_at-zero (k % 64) in
    omega (arith, mine.1, yours.1)

-- a digit that implies another has nothing over it
digit_over : (mine yours : ℕ) → mine < 2 → (mine ≡ 1 → yours ≡ 1) → min mine (1 - yours) ≡ 0
digit_over mine yours small implied = ⊎_elim
    (λ one. omega (arith, implied one))
    (λ zero_digit. omega arith)
    (cases_eq mine 1)

-- where one row is part of the other, so is each word
pub no_bit_over : (w : ℕ) (words other : List ℕ) (i : ℕ) → i < w → get_or other i 0 < 2 ^ 64 → get_or words i 0 < 2 ^ 64
    → ((k : ℕ) → has_bit w words k ≡ true → has_bit w other k ≡ true)
    → bit_and (get_or words i 0) (bit_not w64 (get_or other i 0)) ≡ 0
no_bit_over w words other i within fits fits' part =
    same_from_bits_below 64 _ 0
    (omega (arith, and_le_l (get_or words i 0) (bit_not w64 (get_or other i 0)), fits')) (lit< tt)
    (λ j in_word.
    let mine : ℕ = bit_at (get_or words i 0) j in
    let implied : mine ≡ 1 → bit_at (get_or other i 0) j ≡ 1
    = λ one. sym (bit_of-place other i j in_word)
    ∙ (has_bit-parts w other _ (part (64 * i + j) (has_bit-one w words _ (omega arith) (bit_of-place words i j in_word ∙ one)))).1 in
    bit_at_and (get_or words i 0) (bit_not w64 (get_or other i 0)) j
    ∙ ap (λ b. min mine b) (bit_at_not w64 (get_or other i 0) j fits in_word)
    ∙ digit_over mine (bit_at (get_or other i 0) j) (bit_at-lt _ _) implied
    ∙ sym (bit_at-zero j))

-- one word more is part of the other row
pub part_more : (words other : List ℕ) (i : ℕ) → get_or other i 0 < 2 ^ 64
    → bit_and (get_or words i 0) (bit_not w64 (get_or other i 0)) ≡ 0
    → (k : ℕ) → (k < 64 * i → bit_of words k ≡ 1 → bit_of other k ≡ 1)
    → k < 64 * (i + 1) → bit_of words k ≡ 1 → bit_of other k ≡ 1
part_more words other i fits none_over k below before one = ⊎_elim
    (λ lower. below lower one)
    (λ at_i.
    let word_is : k / 64 ≡ i = omega arith in
    let j : ℕ = k % 64 in
    let mine : bit_at (get_or words i 0) j ≡ 1 = ap (λ word. bit_at (get_or words word 0) j) (sym word_is) ∙ one in
    let none : min (bit_at (get_or words i 0) j) (1 - bit_at (get_or other i 0) j) ≡ 0
    = ap (λ b. min (bit_at (get_or words i 0) j) b) (sym (bit_at_not w64 (get_or other i 0) j fits (omega arith)))
    ∙ sym (bit_at_and (get_or words i 0) (bit_not w64 (get_or other i 0)) j)
    ∙ ap (λ word. bit_at word j) none_over ∙ bit_at-zero j in
    let small : bit_at (get_or other i 0) j < 2 = bit_at-lt _ _ in
    ap (λ word. bit_at (get_or other word 0) j) word_is ∙ omega arith)
    (cases_lt k (64 * i))

-- where the bit of one row is set in the other too, the other has what the one has
pub part_has : (w : ℕ) (words other : List ℕ) (k : ℕ) → (bit_of words k ≡ 1 → bit_of other k ≡ 1) → has_bit w words k ≡ true → has_bit w other k ≡ true
part_has w words other k part has =
    let mine = has_bit-parts w words k has in
    has_bit-one w other k mine.0 (part mine.1)

-- words from one place to another are joined, and the others are as they were, where the other row has bits in those alone
pub union_in_words : (w : ℕ) (words other both : List ℕ) (from to i n : ℕ) → to ≤ i
    → ((k : ℕ) → from ≤ k → k < i → get_or both k 0 ≡ bit_or (get_or words k 0) (get_or other k 0))
    → ((k : ℕ) → k < from → get_or both k 0 ≡ get_or words k 0) → ((k : ℕ) → i ≤ k → get_or both k 0 ≡ get_or words k 0)
    → (has_bit w other n ≡ true → (64 * from ≤ n) × (n < 64 * to))
    → has_bit w both n ≡ (has_bit w words n || has_bit w other n)
union_in_words w words other both from to i n all joined before after lies = ⊎_elim
    (λ low. untouched (before (n / 64) low) (λ has. let (least, most) = lies has in omega (arith, least, low)))
    (λ high. ⊎_elim
    (λ within. has_bit_union w words other both n (λ there. joined (n / 64) high within))
    (λ past. untouched (after (n / 64) past) (λ has. let (least, most) = lies has in omega (arith, most, past)))
    (cases_lt (n / 64) i))
    (cases_lt (n / 64) from)
  where
    untouched : get_or both (n / 64) 0 ≡ get_or words (n / 64) 0 → (has_bit w other n ≡ true → ⊥) → has_bit w both n ≡ (has_bit w words n || has_bit w other n)
    untouched same none =
        has_bit-same w both words n (λ within. ap (λ word. bit_at word (n % 64)) same)
        ∙ sym (or-false (has_bit w words n)) ∙ ap (λ b. has_bit w words n || b) (sym (false_from_ne_true (has_bit w other n) none))

-- the same, where they are cleared
pub without_in_words : (w : ℕ) (words other left : List ℕ) (from to i n : ℕ) → to ≤ i
    → ((k : ℕ) → from ≤ k → k < i → get_or left k 0 ≡ bit_and (get_or words k 0) (bit_not w64 (get_or other k 0)))
    → ((k : ℕ) → from ≤ k → k < i → get_or other k 0 < 2 ^ 64)
    → ((k : ℕ) → k < from → get_or left k 0 ≡ get_or words k 0) → ((k : ℕ) → i ≤ k → get_or left k 0 ≡ get_or words k 0)
    → (has_bit w other n ≡ true → (64 * from ≤ n) × (n < 64 * to))
    → has_bit w left n ≡ (not (has_bit w other n) && has_bit w words n)
without_in_words w words other left from to i n all cleared fits before after lies = ⊎_elim
    (λ low. untouched (before (n / 64) low) (λ has. let (least, most) = lies has in omega (arith, least, low)))
    (λ high. ⊎_elim
    (λ within. has_bit_without w words other left n (λ there. cleared (n / 64) high within) (λ there. fits (n / 64) high within))
    (λ past. untouched (after (n / 64) past) (λ has. let (least, most) = lies has in omega (arith, most, past)))
    (cases_lt (n / 64) i))
    (cases_lt (n / 64) from)
  where
    untouched : get_or left (n / 64) 0 ≡ get_or words (n / 64) 0 → (has_bit w other n ≡ true → ⊥) → has_bit w left n ≡ (not (has_bit w other n) && has_bit w words n)
    untouched same none =
        has_bit-same w left words n (λ within. ap (λ word. bit_at word (n % 64)) same)
        ∙ ap (λ b. not b && has_bit w words n) (sym (false_from_ne_true (has_bit w other n) none))

-- a search for a common member says whether there is one
pub found_common : (found : Option ℕ) (b : Bool) (P Q : ℕ → Type 0) → b ≡ is_some found → IfNone found ((k : ℕ) → P k → ¬ Q k)
    → IfSome found (λ n. P n × Q n) → IsTrue b ↔ ((k : ℕ) × P k × Q k)
found_common None b P Q is none there = ((λ yes. absurd (false≢true (sym is ∙ yes))), (λ common. absurd (none common.0 common.1 common.2)))
found_common (Some n) b P Q is none there = ((λ yes. (n, there.0, there.1)), (λ common. is))

-- a row whose words are those of another, as far as it goes
pub has_bit_resized : (w v : ℕ) (words other : List ℕ) (n : ℕ) → length words ≡ w → (n < 64 * v → get_or other (n / 64) 0 ≡ get_or words (n / 64) 0)
    → has_bit v other n ≡ (nat_lt n (64 * v) && has_bit w words n)
unfolding has_bit
has_bit_resized w v words other n long same = ⊎_elim
    (λ within. ap (λ b. nat_lt n (64 * v) && b) (ap (λ word. bit_at word (n % 64) == 1) (same within) ∙ sym (in_range within)))
    (λ past. rw (le-ltb n (64 * v) past) refl)
    (cases_lt n (64 * v))
  where
    in_range : n < 64 * v → (nat_lt n (64 * w) && (bit_of words n == 1)) ≡ (bit_of words n == 1)
    in_range within = ⊎_elim
        (λ there. ap (λ b. b && (bit_of words n == 1)) (lt-ltb n (64 * w) there))
        (λ past. rw (le-ltb n (64 * w) past) (sym (ap (λ word. bit_at word (n % 64) == 1) (get_or_past words (n / 64) 0 (omega (arith, past, long))) ∙ ap (λ b. b == 1) (bit_at-zero (n % 64)))))
        (cases_lt n (64 * w))

-- a row that is read as a wider one has the same bits
pub has_bit_wider : (v w : ℕ) (words : List ℕ) (n : ℕ) → length words ≡ v → v ≤ w → has_bit w words n ≡ has_bit v words n
has_bit_wider v w words n long fits = has_bit_resized v w words words n long (λ _. refl) ∙ ⊎_elim
    (λ within. ap (λ b. b && has_bit v words n) (lt-ltb n (64 * w) within))
    (λ past. ap (λ b. b && has_bit v words n) (le-ltb n (64 * w) past) ∙ sym (has_bit-past v words n (omega (arith, past, fits))))
    (cases_lt n (64 * w))

-- the words that a narrower row has are joined, and the others are as they were
pub union_narrow_in_words : (w v : ℕ) (words other both : List ℕ) (i n : ℕ) → length other ≡ v → v ≤ w → v ≤ i
    → ((k : ℕ) → k < i → get_or both k 0 ≡ bit_or (get_or words k 0) (get_or other k 0)) → ((k : ℕ) → i ≤ k → get_or both k 0 ≡ get_or words k 0)
    → has_bit w both n ≡ (has_bit w words n || has_bit v other n)
union_narrow_in_words w v words other both i n long fits all joined after =
    let same = has_bit_wider v w other n long fits in
    union_in_words w words other both 0 v i n all (λ k _ below. joined k below) (λ k below. absurd (omega (arith, below))) after
    (λ has. (omega arith, (has_bit-parts v other n (sym same ∙ has)).0)) ∙ ap (λ b. has_bit w words n || b) same

-- where the words past some are zero, each bit stands in those
pub within_by_words : (w v : ℕ) (words : List ℕ) (i : ℕ) → w ≤ i → ((k : ℕ) → v ≤ k → k < i → get_or words k 0 ≡ 0) → (k : ℕ) → has_bit w words k ≡ true → k < 64 * v
within_by_words w v words i all zero_words k has = ⊎_elim
    (λ below. below)
    (λ past. let parts = has_bit-parts w words k has in
    let zero = bit_of-zero_word words k (zero_words (k / 64) (omega (arith, past)) (omega (arith, parts.0, all))) in
    let wrong = sym zero ∙ parts.1 in absurd (cc))
    (cases_lt k (64 * v))
