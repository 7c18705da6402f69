use Rattle.std.proofs.Common.{◌≡◌, ◌*◌, length}
use Rattle.leaf_rows.specs.Leaves.{has_leaf, passing_below}
use Rattle.leaf_rows.proofs.leaf_set.LeafSet.count.Given as goal

-- the members in the words below i are counted
abbrev pub invariant-loop-i : goal.invariant-loop-i
invariant-loop-i g l = l.count ≡ length (passing_below (has_leaf {w = g.row.W} l.self) (64 * l.i))
