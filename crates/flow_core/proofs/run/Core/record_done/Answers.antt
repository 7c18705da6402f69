use Rattle.std.proofs.Common.{refl}
use Rattle.flow_laws.proofs.ClaimLemmas.{leaf_of_claim_is}
use Rattle.flow_core.specs.Run.{now}
use Rattle.flow_core.specs.Invariant.{run_by}
use Rattle.flow_core.proofs.Steps.{kept_done}
use Rattle.flow_core.proofs.GivenClaims.{course_room}
use Rattle.flow_core.proofs.Entries.{unanswered_inside, next_inside, entered}
use Rattle.flow_core.proofs.run.Core.record_done.Goals as goal

pub answer-requires : goal.answer-requires
answer-requires c = unanswered_inside c.self.inside c.self.invariant c.args.self.now c.self.view_is c.args.claim c.requires.current

pub push-requires : goal.push-requires
push-requires c =
    next_inside c.self.inside c.self.invariant c.args.self.now c.self.view_is c.args.claim c.args.given.leaf c.requires.current (leaf_of_claim_is (now c.args.self.now) c.args.claim _ c.requires.given.claim)

pub perform-requires-clause-room : goal.perform-requires-clause-room
perform-requires-clause-room c =
    course_room c.self.inside c.self.invariant _ (next_inside c.self.inside c.self.invariant c.args.self.now c.self.view_is c.args.claim _ c.requires.current refl)

pub invariant_of-self : goal.invariant_of-self
invariant_of-self c =
    let i = c.self.inside in
    let current = rw (← c.self.view_is) at c.requires.current in
    let claim = rw (← c.self.view_is) at c.requires.given.claim in
    let event = rw (← c.self.view_is) at c.requires.given.event in
    entered i c.self.invariant c.args.self.now c.self.view_is _ c.args.by _ refl refl c.enter.ensures.unlooked c.enter.ensures.items c.enter.ensures.capacity c.requires.open c.requires.steps
    (λ going room. rw (c.push.ensures, c.answer.ensures, c.perform.ensures)
    (kept_done i c.self.invariant going room c.args.by c.args.claim c.args.given.leaf c.args.given.event current (leaf_of_claim_is (now (run_by i)) c.args.claim _ claim) event))
