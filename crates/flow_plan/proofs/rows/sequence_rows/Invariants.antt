use Rattle.std.proofs.Common.{drop}
use Rattle.flow_plan.specs.RowMarks.{Completes}
use Rattle.flow_plan.proofs.rows.sequence_rows.Given as goal

abbrev pub invariant-loop-node : goal.invariant-loop-node
invariant-loop-node g l = Completes l.goal.process (drop l.node-index l.node-items) l.leaves l.sweep
