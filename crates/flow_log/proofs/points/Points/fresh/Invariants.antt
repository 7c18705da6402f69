use Rattle.std.proofs.Common.{◌⊎◌, ℕ, IsTrue}
use Rattle.leaf_rows.specs.Leaves.{has_leaf}
use Rattle.flow_log.specs.Search.{IsKnown}
use Rattle.flow_log.proofs.points.Points.fresh.Given as goal

abbrev pub invariant-loop-end : goal.invariant-loop-end
invariant-loop-end g l = record {
  among : (j : ℕ) → IsTrue (has_leaf l.fresh j) → IsTrue (has_leaf l.options j);
  all : (j : ℕ) → IsTrue (has_leaf l.options j) → IsTrue (has_leaf l.fresh j) ⊎ IsKnown l.self.points.items j l.like;
}

abbrev pub decreases-loop-end : goal.decreases-loop-end
decreases-loop-end g l = l.end
