use Rattle.std.proofs.Common.{◌≤◌, length, subst}
use Rattle.flow_model.specs.declared.limits.TheConstants.{MOST_LEAVES}
use Rattle.flow_residual.specs.Remaining.{Remaining}
use Rattle.flow_residual.proofs.KeptLemmas.{at_most_all}
use Rattle.flow_residual.proofs.residual.Residual.journal.Goals as goal

pub returns-clause-few : goal.returns-clause-few
returns-clause-few c =
    subst (λ (r : Remaining). length r.journal ≤ MOST_LEAVES) c.self.view_is (at_most_all c.self.inside.journal.items c.self.invariant.kept.done)
