use Rattle.flow_plan.specs.Options.{options_of}
use Rattle.flow_residual.specs.Track.{IsNextRow}
use Rattle.flow_residual.proofs.OptionLemmas.{AreTurned}
use Rattle.flow_residual.proofs.next_rows.look_all.Given as goal

abbrev pub invariant-loop-place : goal.invariant-loop-place
invariant-loop-place g l = AreTurned l.place (λ o row. Unit {0}) (IsNextRow l.journal) (options_of l.plans) l.rows
