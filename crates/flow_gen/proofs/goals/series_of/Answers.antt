use Rattle.std.proofs.Common.{◌≡◌, ◌+◌, ◌-◌, List, ◌++◌, map, ap, ◌∙◌, refl, arith}
use Rattle.flow_model.specs.Lists.{numbers_from}
use Rattle.flow_form.specs.declared.form.Form.{Form}
use Rattle.flow_form.specs.Form.{shape_of, named, serial, shapes}
use Rattle.flow_gen.specs.Generated.{event_name}
use Rattle.flow_form.proofs.Shapes.{shape_of-Serial}
use Rattle.flow_gen.proofs.Steps.{numbered, all_left}
use Rattle.flow_gen.proofs.goals.series_of.Goals as goal

pub loop-event-init : goal.loop-event-init
loop-event-init c =
    let same : c.args.first + c.args.count - c.args.first ≡ c.args.count = omega arith in
    ap (λ (es : List Form). map shape_of es ++ map (λ k. named (event_name k)) (numbers_from c.args.first (c.args.first + c.args.count - c.args.first))) c.new-events.ensures.items
    ∙ ap (λ n. map (λ k. named (event_name k)) (numbers_from c.args.first n)) same

pub loop-event-preserved : goal.loop-event-preserved
loop-event-preserved c =
    numbered shape_of (λ k. named (event_name k)) _ _ _ _ _ _ (omega arith) c.in_ok-push.ensures.items c.in_ok-event_of.ensures c.loop-event.invariant

pub returns : goal.returns
returns c =
    shape_of-Serial _ c.loop-event.events _ refl refl
    ∙ ap (λ ss. serial (shapes ss))
    (all_left (λ n. map (λ k. named (event_name k)) (numbers_from c.loop-event.event n)) _ _ c.loop-event.event _ refl c.loop-event-test.false c.loop-event.invariant)
