use Rattle.std.proofs.Common.{◌≡◌, ◌-◌, ◌++◌, map}
use Rattle.flow_model.specs.Lists.{numbers_from}
use Rattle.flow_form.specs.Form.{shape_of, named}
use Rattle.flow_gen.specs.Generated.{event_name}
use Rattle.flow_gen.proofs.goals.series_of.Given as goal

abbrev pub invariant-loop-event : goal.invariant-loop-event
invariant-loop-event l =
    map shape_of l.events.items ++ map (λ k. named (event_name k)) (numbers_from l.event (l.event-end - l.event))
    ≡ map (λ k. named (event_name k)) (numbers_from l.first l.count)
