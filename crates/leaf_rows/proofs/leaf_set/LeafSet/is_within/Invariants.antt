use Rattle.std.proofs.Common.{◌≡◌, ℕ, ◌<◌, ◌≤◌, get_or}
use Rattle.leaf_rows.proofs.leaf_set.LeafSet.is_within.Given as goal

-- the words from V up to i are zero
abbrev pub invariant-loop-i : goal.invariant-loop-i
invariant-loop-i g l = (k : ℕ) → g.row.V ≤ k → k < l.i → get_or l.self.words k 0 ≡ 0
