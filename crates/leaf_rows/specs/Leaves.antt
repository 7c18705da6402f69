-- A set of leaves as its members.
use Rattle.std.specs.Prelude.{ℕ, zero, suc, ◌*◌, ◌/◌, ◌%◌, ◌<◌, ◌≤◌, Bool, IsTrue, ◌==◌, ◌&&◌, nat_lt, if◌then◌else◌, List, [], ◌∷◌, ◌++◌, slice_index}
use Rattle.std.specs.Int.{bit_at}
use Rattle.leaf_rows.specs.declared.leaf_set.LeafSet.{LeafSet}

-- whether a row of w words has bit n
unfoldable pub has_bit : ℕ → List ℕ → ℕ → Bool
has_bit w words n = nat_lt n (64 * w) && (bit_at (slice_index words (n / 64)) (n % 64) == 1)

-- whether n is a member
unfoldable pub has_leaf : {w : ℕ} → LeafSet w → ℕ → Bool
has_leaf {w} set n = has_bit w set.words n

-- each member has its bit in a word from the one up to the other
abbrev pub LiesIn : {w : ℕ} → ℕ → ℕ → LeafSet w → Type 0
LiesIn from to set = (n : ℕ) → IsTrue (has_leaf set n) → (64 * from ≤ n) × (n < 64 * to)

-- the numbers below n that pass the test, in rising order
unfoldable pub passing_below : (ℕ → Bool) → ℕ → List ℕ
passing_below test zero = []
passing_below test (suc n) = passing_below test n ++ (if test n then n ∷ [] else [])

-- the members, in rising order
unfoldable pub members : {w : ℕ} → LeafSet w → List ℕ
members {w} set = passing_below (has_leaf set) (64 * w)
