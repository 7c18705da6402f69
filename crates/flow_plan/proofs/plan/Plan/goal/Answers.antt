use Rattle.flow_plan.proofs.Readiness.{kept_ordered}
use Rattle.flow_plan.proofs.plan.Plan.goal.Goals as goal

pub returns-clause-ordered : goal.returns-clause-ordered
returns-clause-ordered c = kept_ordered c.self.inside.rows c.self.invariant.kept c.self.view_is
