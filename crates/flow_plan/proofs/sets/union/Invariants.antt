use Rattle.std.proofs.Common.{take}
use Rattle.flow_plan.specs.Rows.{IsRowOf}
use Rattle.flow_plan.specs.Ahead.{IsInSome}
use Rattle.flow_plan.proofs.sets.union.Given as goal

abbrev pub invariant-loop-row : goal.invariant-loop-row
invariant-loop-row g l = IsRowOf (IsInSome (take l.row-index l.rows)) l.all
