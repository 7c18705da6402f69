use Rattle.std.proofs.Common.{subst}
use Rattle.flow_verify.specs.Verification.{TellsOfConstraint}
use Rattle.flow_lint.proofs.constraints.Standing.of.Goals as goal

pub returns-in-Needed : goal.returns-in-Needed
returns-in-Needed c = λ w number seen told. (
  seen,
  λ follows. let one = subst (TellsOfConstraint w number) c.in-Needed.is told in one.1 (follows c.in-Needed.field-0.items one.0),
)
