-- How many members stand in the words so far.
use Rattle.std.proofs.Common.{◌≡◌, ℕ, zero, suc, ◌+◌, ◌*◌, ◌%◌, ◌^◌, ◌<◌, ◌≤◌, ◌==◌, Bool, true, false, List, [], ◌∷◌, ◌++◌, length, get_or, refl, sym, ap, ◌∙◌, arith, lit<, length-append, cond, add-zero}
use Rattle.std.proofs.lemmas.Nat.{ones_cat, mod-pow-add, mod_below, pow_pos}
use Rattle.std.proofs.Math.Nat.{mod-eq_of_lt, mod-one}
use Rattle.std.proofs.lemmas.Nat.Bits.{bit_at-lt}
use Rattle.std.specs.Int.{bit_at}
use Rattle.std.specs.Int.Count.{ones, ones_in}
use Rattle.leaf_rows.specs.Leaves.{has_bit, passing_below}
use Rattle.leaf_rows.proofs.Rows.{bit_of-place, has_bit-is}

-- at most n numbers are below n
pub passing_length : (test : ℕ → Bool) (n : ℕ) → length (passing_below test n) ≤ n
unfolding passing_below
passing_length test zero = omega arith
passing_length test (suc n) =
    elim (test n) as (λ b. length (passing_below test n ++ cond b (n ∷ []) []) ≤ suc n) [
      | true ↦ omega (arith, length-append (passing_below test n) (n ∷ []), passing_length test n)
      | false ↦ omega (arith, length-append {A = ℕ} (passing_below test n) [], passing_length test n)
    ]

-- one more number counts where it passes
pub length-passing_below-suc : (test : ℕ → Bool) (n : ℕ)
    → length (passing_below test (suc n)) ≡ length (passing_below test n) + cond (test n) 1 0
unfolding passing_below
length-passing_below-suc test n =
    elim (test n) as (λ b. length (passing_below test n ++ cond b (n ∷ []) []) ≡ length (passing_below test n) + cond b 1 0) [
      | true ↦ length-append (passing_below test n) (n ∷ [])
      | false ↦ length-append {A = ℕ} (passing_below test n) []
    ]

-- the count of one digit is the digit
ones_digit : (d : ℕ) → d < 2 → ones d ≡ d
unfolding ones ones_in
ones_digit zero small = refl
ones_digit (suc zero) small = refl
ones_digit (suc (suc d)) small = absurd (omega arith)

-- the ones among the first places of a word: one place more
ones_more : (word r : ℕ) → ones (word % 2 ^ (1 + r)) ≡ bit_at word r + ones (word % 2 ^ r)
ones_more word r =
    ap ones (mod-pow-add word 1 r) ∙ ones_cat r (bit_at word r) (word % 2 ^ r) (mod_below word (2 ^ r) (pow_pos r))
    ∙ ap (λ n. n + ones (word % 2 ^ r)) (ones_digit (bit_at word r) (bit_at-lt word r))

-- a digit as a test
digit_counts : (d : ℕ) → d < 2 → cond (d == 1) 1 0 ≡ d
digit_counts zero small = refl
digit_counts (suc zero) small = refl
digit_counts (suc (suc d)) small = absurd (omega arith)

-- the numbers that pass up to the place r of word i, where the test tells the bits of that word
passing_in_word : (test : ℕ → Bool) (word i r : ℕ) → r ≤ 64
    → ((j : ℕ) → j < 64 → test (64 * i + j) ≡ (bit_at word j == 1))
    → length (passing_below test (64 * i + r)) ≡ length (passing_below test (64 * i)) + ones (word % 2 ^ r)
passing_in_word test word i zero within tells = rw (add-zero, mod-one word, ones_digit zero (lit< tt)) (sym (add-zero _))
passing_in_word test word i (suc r) within tells =
    let next : 64 * i + suc r ≡ suc (64 * i + r) = omega arith in
    let power : suc r ≡ 1 + r = omega arith in
    let digit : cond (test (64 * i + r)) 1 0 ≡ bit_at word r
    = ap (λ b. cond b 1 0) (tells r (omega arith)) ∙ digit_counts (bit_at word r) (bit_at-lt word r) in
    let before = passing_in_word test word i r (omega arith) tells in
    let step = length-passing_below-suc test (64 * i + r) in
    let more = ones_more word r in
    rw (next, power) (omega (arith, step, digit, before, more))

-- the members in one word more
pub members_more : (w : ℕ) (words : List ℕ) (i : ℕ) → i < w → get_or words i 0 < 2 ^ 64
    → length (passing_below (has_bit w words) (64 * (i + 1)))
    ≡ length (passing_below (has_bit w words) (64 * i)) + ones (get_or words i 0)
members_more w words i within fits =
    let end : 64 * (i + 1) ≡ 64 * i + 64 = omega arith in
    let whole : get_or words i 0 % 2 ^ 64 ≡ get_or words i 0 = mod-eq_of_lt fits in
    rw end (passing_in_word (has_bit w words) (get_or words i 0) i 64 (omega arith)
    (λ j in_word. has_bit-is w words (64 * i + j) (omega arith) ∙ ap (λ d. d == 1) (bit_of-place words i j in_word))
    ∙ ap (λ word. length (passing_below (has_bit w words) (64 * i)) + ones word) whole)
