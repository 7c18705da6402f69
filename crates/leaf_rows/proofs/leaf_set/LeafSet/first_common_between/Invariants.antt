use Rattle.std.proofs.Common.{◌≡◌, ℕ, ◌<◌, ◌≤◌, get_or, bit_and}
use Rattle.leaf_rows.proofs.leaf_set.LeafSet.first_common_between.Given as goal

-- no word from the first up to i has a common bit
abbrev pub invariant-loop-i : goal.invariant-loop-i
invariant-loop-i g l = (k : ℕ) → l.from ≤ k → k < l.i → bit_and (get_or l.self.words k 0) (get_or l.other.words k 0) ≡ 0
