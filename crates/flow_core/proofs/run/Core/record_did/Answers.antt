use Rattle.std.proofs.Common.{MatchOption, subst, sym, refl}
use Rattle.flow_model.specs.Facts.{Holds, HoldsAt}
use Rattle.flow_model.specs.Run.{database}
use Rattle.flow_workflow.specs.Definition.{schema_of}
use Rattle.flow_core.specs.Run.{now}
use Rattle.flow_core.specs.Invariant.{run_by}
use Rattle.flow_core.proofs.Steps.{kept_did}
use Rattle.flow_core.proofs.GivenClaims.{course_room, known_fact, left_comes_next}
use Rattle.flow_core.proofs.Entries.{entered}
use Rattle.flow_core.proofs.run.Core.record_did.Goals as goal

pub push-requires : goal.push-requires
push-requires c =
    let aside = rw (← c.self.view_is) at c.requires.enabled in
    left_comes_next c.self.inside c.self.invariant c.args.leaf aside

pub perform-requires-clause-room : goal.perform-requires-clause-room
perform-requires-clause-room c =
    let aside = rw (← c.self.view_is) at c.requires.enabled in
    course_room c.self.inside c.self.invariant c.args.leaf (left_comes_next c.self.inside c.self.invariant c.args.leaf aside)

pub perform-requires-clause-known : goal.perform-requires-clause-known
perform-requires-clause-known c =
    let at = rw (← c.self.view_is) at c.requires.label in
    known_fact c.self.inside c.self.invariant c.args.leaf c.args.label at

pub invariant_of-self : goal.invariant_of-self
invariant_of-self c =
    let i = c.self.inside in
    let at = rw (← c.self.view_is) at c.requires.label in
    let aside = rw (← c.self.view_is) at c.requires.enabled in
    let holds = rw (← c.self.view_is) at c.requires.holds in
    let holds_at : HoldsAt i.workflow.tree.labels (database (schema_of i.workflow) (now (run_by i))) c.args.leaf =
    subst (λ o. MatchOption o (Unit {0}) (Holds (database (schema_of i.workflow) (now (run_by i))))) (sym at) holds in
    entered i c.self.invariant c.args.self.now c.self.view_is _ c.args.by _ refl refl c.enter.ensures.unlooked c.enter.ensures.items c.enter.ensures.capacity c.requires.open c.requires.steps
    (λ going room. rw (c.push.ensures, c.perform.ensures) (kept_did i c.self.invariant going room c.args.by c.args.leaf c.args.label at (aside, holds_at)))
