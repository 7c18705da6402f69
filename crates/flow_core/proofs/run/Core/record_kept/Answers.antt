use Rattle.std.proofs.Common.{refl}
use Rattle.flow_model.specs.declared.history.Step.TheVariants.{Failed}
use Rattle.flow_model.specs.declared.history.FailEffect.TheVariants.{Kept}
use Rattle.flow_core.proofs.Steps.{kept_answered}
use Rattle.flow_core.proofs.Entries.{unanswered_inside, entered}
use Rattle.flow_core.proofs.run.Core.record_kept.Goals as goal

pub answer-requires : goal.answer-requires
answer-requires c = unanswered_inside c.self.inside c.self.invariant c.args.self.now c.self.view_is c.args.claim c.requires.current

pub invariant_of-self : goal.invariant_of-self
invariant_of-self c =
    let i = c.self.inside in
    let current = rw (← c.self.view_is) at c.requires.current in
    let needed = rw (← c.self.view_is) at c.requires.needed in
    entered i c.self.invariant c.args.self.now c.self.view_is _ c.args.by (Failed c.args.claim Kept) refl refl c.enter.ensures.unlooked c.enter.ensures.items c.enter.ensures.capacity c.requires.open c.requires.steps
    (λ going room. rw c.answer.ensures (kept_answered i c.self.invariant going room c.args.by (Failed c.args.claim Kept) c.args.claim (current, needed) refl refl))
