-- Places in rising lists.
use Rattle.std.proofs.Common.{◌≡◌, ℕ, ◌<◌, ◌≤◌, ◌-◌, ◌*◌, ◌^◌, suc, lit<, List, [], ◌∷◌, length, get_or, slice_get, Some, None, IsTrue, nat_lt, inl, inr, ⊎_elim, sym, ap, ◌∙◌, arith}
use Rattle.std.proofs.lemmas.Bool.{cases_lt, ltb-true}
use native.Mathlib.Numerals.{unary_clauses}
use Rattle.std.specs.List.Sorted.{IsStrictlyIncreasing}
use Rattle.std.proofs.lemmas.List.Kept.{AllPairs-from_increasing}
use Rattle.std.proofs.lemmas.Option.{slice_get-get_or}
use Rattle.leaf_rows.specs.declared.TheConstants.{LEAF_WORDS}
use Rattle.flow_model.specs.declared.limits.TheConstants.{MOST_LEAVES}
use Rattle.flow_model.proofs.Lists.{each_from_members, mem-slice_get}
use Rattle.flow_model.specs.Lists.{◌∈◌, Each, AreDistinct}

-- a member stands at some place
pub place_of_member : (xs : List ℕ) (x : ℕ) → x ∈ xs → (k : ℕ) × (k < length xs) × (get_or xs k 0 ≡ x)
place_of_member [] x member = absurd member
place_of_member (y ∷ ys) x (inl same) = (0, omega arith, sym same)
place_of_member (y ∷ ys) x (inr member) =
    let later = place_of_member ys x member in (suc later.0, omega (arith, later.1), later.2)

-- what stands at a place within the list is a member
pub read_member : (xs : List ℕ) (k : ℕ) → k < length xs → get_or xs k 0 ∈ xs
read_member xs k within = mem-slice_get xs k (get_or xs k 0) (slice_get-get_or xs k 0 within)

rising_tail : (x : ℕ) (xs : List ℕ) → IsStrictlyIncreasing (x ∷ xs) → IsStrictlyIncreasing xs
rising_tail x xs rising k within =
    let next = rising (suc k) (omega arith) in
    let there = simp unary_clauses at next in
    simp unary_clauses there

-- a rising list holds no number twice
pub distinct_of_rising : (xs : List ℕ) → IsStrictlyIncreasing xs → AreDistinct xs
distinct_of_rising [] rising = tt
distinct_of_rising (x ∷ xs) rising = (
  λ member. let place = place_of_member xs x member in
      let above : x < get_or xs place.0 0 = AllPairs-from_increasing (x ∷ xs) rising 0 (suc place.0) 0 (omega arith) (omega (arith, place.1)) in
      omega (arith, above, place.2),
  distinct_of_rising xs (rising_tail x xs rising),
)

-- what a search of a rising list says where it finds nothing
pub not_found : (xs : List ℕ) (x i : ℕ) → ((k : ℕ) → k < i → get_or xs k 0 < x) → ((k : ℕ) → i ≤ k → k < length xs → x < get_or xs k 0) → ¬ (x ∈ xs)
not_found xs x i below above member =
    let place = place_of_member xs x member in
    ⊎_elim (λ before. omega (arith, below place.0 before, place.2)) (λ after. omega (arith, above place.0 after place.1, place.2))
    (cases_lt place.0 i)

-- a rising list never falls
pub rising_never_falls : (xs : List ℕ) → IsStrictlyIncreasing xs → (i j : ℕ) → i ≤ j → j < length xs → get_or xs i 0 ≤ get_or xs j 0
rising_never_falls xs rising i j order within = ⊎_elim
    (λ before. omega (arith, AllPairs-from_increasing xs rising i j 0 before within))
    (λ after. let same : i ≡ j = omega arith in omega (arith, ap (λ (k : ℕ). get_or xs k 0) same))
    (cases_lt i j)

-- what the last one of a rising list says of all
pub all_below_last : (xs : List ℕ) (last bound : ℕ) → IsStrictlyIncreasing xs → Some last ≡ slice_get xs (length xs - 1) → IsTrue (nat_lt last bound) → Each (λ n. n < bound) xs
all_below_last xs last bound rising is small = each_from_members (λ n. n < bound) xs (λ n member.
    let (k, within, same) = place_of_member xs n member in
    let most = rising_never_falls xs rising k (length xs - 1) (omega (arith, within)) (omega (arith, within)) in
    let at : Some last ≡ Some (get_or xs (length xs - 1) 0) = is ∙ slice_get-get_or xs (length xs - 1) 0 (omega (arith, within)) in
    let there : last ≡ get_or xs (length xs - 1) 0 = cc in
    omega (arith, same, most, there, ltb-true last bound small))

pub none_below : (xs : List ℕ) (bound : ℕ) → None ≡ slice_get xs (length xs - 1) → Each (λ n. n < bound) xs
none_below [] bound none = tt
none_below (x ∷ xs) bound none = let at = none ∙ slice_get-get_or (x ∷ xs) (length (x ∷ xs) - 1) 0 (omega arith) in absurd (cc)

-- a set of leaves may be asked for such a leaf
pub may_ask : (leaf : ℕ) → leaf < MOST_LEAVES → (8 * LEAF_WORDS < 2 ^ 63) × (leaf < 64 * LEAF_WORDS)
may_ask leaf small = (lit< tt, small)
