use Rattle.std.proofs.Common.{refl}
use Rattle.flow_model.specs.declared.history.Step.TheVariants.{Late}
use Rattle.flow_core.specs.Run.{now}
use Rattle.flow_core.specs.Invariant.{run_by}
use Rattle.flow_core.proofs.Steps.{kept_answered}
use Rattle.flow_core.proofs.Tests.{unanswered_there}
use Rattle.flow_core.proofs.GivenClaims.{unanswered_lapsed}
use Rattle.flow_core.proofs.Entries.{entered}
use Rattle.flow_core.proofs.run.Core.record_late.Goals as goal

pub answer-requires : goal.answer-requires
answer-requires c =
    let i = c.self.inside in
    let lapsed = rw (← c.self.view_is) at c.requires.lapsed in
    unanswered_there i.workflow _ i.claims c.self.invariant.kept.claims c.args.claim (unanswered_lapsed (now (run_by i)) c.args.claim lapsed)

pub invariant_of-self : goal.invariant_of-self
invariant_of-self c =
    let i = c.self.inside in
    let lapsed = rw (← c.self.view_is) at c.requires.lapsed in
    entered i c.self.invariant c.args.self.now c.self.view_is _ c.args.by (Late c.args.claim) refl refl c.enter.ensures.unlooked c.enter.ensures.items c.enter.ensures.capacity c.requires.open c.requires.steps
    (λ going room. rw c.answer.ensures (kept_answered i c.self.invariant going room c.args.by (Late c.args.claim) c.args.claim lapsed refl refl))
