use Rattle.std.proofs.Common.{◌∙◌, sym, below_more, true≢false}
use Rattle.flow_model.specs.Run.{CanDoAside}
use Rattle.flow_core.specs.Run.{schema, now}
use Rattle.flow_core.proofs.NextLemmas.{least_from_below}
use Rattle.flow_core.proofs.run.Core.least_left.Goals.{else-not-is_done-via-then-not-is_done+else-can_do_aside, else-not-is_done-via-else-not-is_done}
use Rattle.flow_core.proofs.run.Core.least_left.Goals as goal

pub loop-leaf-preserved : goal.loop-leaf-preserved
loop-leaf-preserved c =
    below_more (λ leaf. ¬ (CanDoAside (schema c.args.self.now) (now c.args.self.now) leaf)) c.loop-leaf.leaf c.loop-leaf.invariant (elim c.else-not-is_done.branch [
      | else-not-is_done-via-then-not-is_done+else-can_do_aside w ↦ (λ can. true≢false (sym (w.can_do_aside.ensures.1 can) ∙ w.if-can_do_aside.false))
      | else-not-is_done-via-else-not-is_done w ↦ c.is_done.ensures.not_left w.if-not-is_done.false
    ])

pub returns-then-can_do_aside : goal.returns-then-can_do_aside
returns-then-can_do_aside c =
    least_from_below (CanDoAside (schema c.args.self.now) (now c.args.self.now)) c.loop-leaf.leaf (c.can_do_aside.ensures.0 c.if-can_do_aside.true) c.loop-leaf.invariant
