use Rattle.std.proofs.Common.{inr, true≢false, sym}
use Rattle.flow_core.proofs.NextLemmas.{not_waiting}
use Rattle.flow_core.proofs.run.Core.waits.Goals as goal

pub returns-in_default : goal.returns-in_default
returns-in_default c =
    (λ never. absurd (true≢false (sym never)), λ waiting. absurd (not_waiting c.args.self.now c.look.result c.look.ensures c.in_default.not-Stuck c.args.leaf waiting))

pub returns-in-Stuck : goal.returns-in-Stuck
returns-in-Stuck c =
    let stuck = c.in-Stuck.ensures.0.0 in
    (λ left. (stuck, stuck.only_waiting c.args.leaf (inr (c.can_do_aside.ensures.0 left))), λ waiting. c.can_do_aside.ensures.1 waiting.1.0)
