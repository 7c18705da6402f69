use Rattle.std.proofs.Common.{◌<◌, subst}
use Rattle.flow_model.specs.declared.limits.TheConstants.{MOST_LEAVES}
use Rattle.flow_model.specs.Lists.{Each}
use Rattle.flow_plan.specs.Planned.{Planned}
use Rattle.flow_plan.proofs.plan.Plan.next_row.Goals as goal

pub returns : goal.returns
returns c = c.next_row_in.ensures.whole (subst (λ (p : Planned). Each (λ n. n < MOST_LEAVES) p.leaves) c.self.view_is c.self.invariant.small)
