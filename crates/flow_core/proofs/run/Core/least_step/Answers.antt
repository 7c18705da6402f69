use Rattle.std.proofs.Common.{◌∙◌, sym, below_more, true≢false}
use Rattle.flow_core.specs.Next.{CanStep}
use Rattle.flow_core.proofs.NextLemmas.{least_from_below}
use Rattle.flow_core.proofs.run.Core.least_step.Goals.{else-not-is_done-via-then-not-is_done+else-can_step, else-not-is_done-via-else-not-is_done}
use Rattle.flow_core.proofs.run.Core.least_step.Goals as goal

pub returns-then-can_step : goal.returns-then-can_step
returns-then-can_step c = least_from_below (CanStep c.args.self.now) c.loop-leaf.leaf (c.can_step.ensures.0 c.if-can_step.true) c.loop-leaf.invariant

pub loop-leaf-preserved : goal.loop-leaf-preserved
loop-leaf-preserved c =
    below_more (λ leaf. ¬ (CanStep c.args.self.now leaf)) c.loop-leaf.leaf c.loop-leaf.invariant (elim c.else-not-is_done.branch [
      | else-not-is_done-via-then-not-is_done+else-can_step w ↦ (λ can. true≢false (sym (w.can_step.ensures.1 can) ∙ w.if-can_step.false))
      | else-not-is_done-via-else-not-is_done w ↦ c.is_done.ensures.no_step w.if-not-is_done.false
    ])
