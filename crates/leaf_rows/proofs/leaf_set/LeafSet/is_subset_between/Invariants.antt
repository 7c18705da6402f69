use Rattle.std.proofs.Common.{◌≡◌, ℕ, ◌<◌, ◌≤◌, ◌*◌}
use Rattle.leaf_rows.proofs.Rows.{bit_of}
use Rattle.leaf_rows.proofs.leaf_set.LeafSet.is_subset_between.Given as goal

-- each bit of the words from the first up to i that self has is one that other has
abbrev pub invariant-loop-i : goal.invariant-loop-i
invariant-loop-i g l = (k : ℕ) → 64 * l.from ≤ k → k < 64 * l.i → bit_of l.self.words k ≡ 1 → bit_of l.other.words k ≡ 1
