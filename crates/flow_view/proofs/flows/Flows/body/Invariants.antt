use Rattle.std.proofs.Common.{◌≡◌}
use Rattle.flow_form.specs.Form.{shape_of}
use Rattle.flow_view.specs.Drawn.{many_times, named_goal}
use Rattle.flow_view.specs.Flows.{names_in, goals_in}
use Rattle.flow_view.proofs.flows.Flows.body.Given as goal

abbrev pub invariant-loop : goal.invariant-loop
invariant-loop l = shape_of l.goal ≡ many_times l.counter (named_goal (names_in l.self) (goals_in l.self)) (shape_of l.fn.form)
