use Rattle.flow_residual.specs.Options.{NoneBelow}
use Rattle.flow_residual.specs.Question.{Has}
use Rattle.flow_residual.proofs.residual.Residual.first_by_rows.Given as goal

abbrev pub invariant-loop-place : goal.invariant-loop-place
invariant-loop-place g l = NoneBelow (Has l.self l.claims l.question) l.self.options l.place
