use Rattle.flow_plan.specs.Options.{options_of}
use Rattle.flow_residual.specs.PlanRows.{IsLeafRow}
use Rattle.flow_residual.proofs.OptionLemmas.{AreTurned}
use Rattle.flow_residual.proofs.plan_rows.fill.Given as goal

abbrev pub invariant-loop-place : goal.invariant-loop-place
invariant-loop-place g l = AreTurned l.place (λ o row. Unit {0}) IsLeafRow (options_of l.plans) l.rows
