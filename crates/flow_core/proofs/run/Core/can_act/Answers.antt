use Rattle.std.proofs.Common.{◌∙◌, true, false, not, sym, ap, true≢false}
use Rattle.flow_core.proofs.Entries.{ended_inside}
use Rattle.flow_core.proofs.run.Core.can_act.Goals as goal

pub returns-then-not-self : goal.returns-then-not-self
returns-then-not-self c =
    let going = ended_inside c.self.inside c.self.invariant c.args.self.now c.self.view_is false c.if-not-self.true in
    (λ yes. (going, c.can_step.ensures.0 yes), λ can. c.can_step.ensures.1 can.1)

pub returns-else-not-self : goal.returns-else-not-self
returns-else-not-self c =
    let over = ended_inside c.self.inside c.self.invariant c.args.self.now c.self.view_is true c.if-not-self.false in
    (λ yes. absurd (true≢false (sym yes ∙ ap not c.if-not-self.false)), λ can. absurd (true≢false (sym over ∙ can.0)))
