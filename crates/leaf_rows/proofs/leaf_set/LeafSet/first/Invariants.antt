use Rattle.std.proofs.Common.{◌≡◌, ℕ, ◌<◌, get_or}
use Rattle.leaf_rows.proofs.leaf_set.LeafSet.first.Given as goal

-- no word below i has a bit
abbrev pub invariant-loop-i : goal.invariant-loop-i
invariant-loop-i g l = (k : ℕ) → k < l.i → get_or l.self.words k 0 ≡ 0
