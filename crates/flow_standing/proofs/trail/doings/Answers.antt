use Rattle.std.proofs.Common.{◌≡◌, length, ap, ◌∙◌, arith}
use Rattle.flow_model.specs.declared.history.Entry.{Entry}
use Rattle.flow_model.specs.declared.history.Step.TheVariants.{Took}
use Rattle.flow_core.specs.Run.{schema}
use Rattle.flow_standing.specs.Following.{leaves_given}
use Rattle.flow_standing.proofs.Fronts.{element}
use Rattle.flow_standing.proofs.Trails.{followed, trail_all}
use Rattle.flow_standing.proofs.trail.doings.Goals as goal

pub loop-place-preserved : goal.loop-place-preserved
loop-place-preserved c =
    let r = c.args.core.now in
    let lawful = c.history-history.ensures.lawful in
    let k = c.loop-place.place in
    let first : Entry = record { by = 0; step = Took 0 0 } in
    let at = element r.history c.history-history.result.now k first c.history-history.ensures.entries c.loop-place-test.true in
    followed (schema r) r.limit r.history lawful.legal lawful.sound k _ at c.loop-place.trail.items c.loop-place.invariant c.deref.result.now
    (c.deref.ensures.value ∙ c.in_ok-leaves.ensures ∙ ap leaves_given c.history-history.ensures.entries) c.follow.new.trail.items c.in_ok-follow.ensures

pub returns : goal.returns
returns c =
    let r = c.args.core.now in
    let lawful = c.history-history.ensures.lawful in
    let all : c.loop-place.place ≡ length r.history = omega (arith, ap length c.history-history.ensures.entries) in
    trail_all (schema r) r.limit r.history lawful.legal lawful.sound c.loop-place.place c.loop-place.trail.items all c.loop-place.invariant
