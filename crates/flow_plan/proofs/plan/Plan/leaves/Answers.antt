use Rattle.flow_plan.proofs.Readiness.{kept_listed}
use Rattle.flow_plan.proofs.plan.Plan.leaves.Goals as goal

pub returns-clause-listed : goal.returns-clause-listed
returns-clause-listed c = kept_listed c.self.inside.rows c.self.invariant.kept c.self.view_is
