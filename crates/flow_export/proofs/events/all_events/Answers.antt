use Rattle.std.proofs.Common.{◌++◌, get_or, refl, sym, ap, ◌∙◌}
use Rattle.std.proofs.lemmas.List.{take_all}
use Rattle.flow_model.specs.declared.history.Entry.{Entry}
use Rattle.flow_model.specs.declared.history.Step.TheVariants.{Took}
use Rattle.flow_standing.specs.Following.{leaves_given, leaf_numbered}
use Rattle.flow_standing.proofs.Fronts.{element}
use Rattle.flow_export.specs.Events.{events_at, events_from}
use Rattle.flow_export.proofs.EventLemmas.{events_next, take_long}
use Rattle.flow_export.proofs.events.all_events.Goals as goal

pub loop-place-preserved : goal.loop-place-preserved
loop-place-preserved c =
    let h = c.args.history.now in
    let k = c.loop-place.place in
    let first : Entry = record { by = 0; step = Took 0 0 } in
    let x : Entry = get_or h k first in
    let d = c.args.doings.now in
    let t = c.args.taken.now in
    c.in_ok-push_events.ensures
    ∙ (λ i. c.loop-place.invariant i ++ events_at (leaf_numbered ((c.deref.ensures.value ∙ c.in_ok-leaves.ensures) i)) d t k x.step)
    ∙ sym (events_next (leaf_numbered (leaves_given h)) d t h k x (element h h k first refl c.loop-place-test.true) (take_long h k c.loop-place-test.true))

pub returns : goal.returns
returns c =
    let h = c.args.history.now in
    c.loop-place.invariant
    ∙ ap (events_from (leaf_numbered (leaves_given h)) c.args.doings.now c.args.taken.now 0) (take_all c.loop-place.place h c.loop-place-test.false)
