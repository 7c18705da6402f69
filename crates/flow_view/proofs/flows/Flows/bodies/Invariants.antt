use Rattle.std.proofs.Common.{◌≡◌, length, map, take, Bor}
use Rattle.flow_form.specs.declared.form.Form.{Form}
use Rattle.flow_form.specs.Form.{shape_of}
use Rattle.flow_view.specs.Drawn.{many_times, named_goal}
use Rattle.flow_view.specs.Flows.{forms_shapes, names_in, goals_in}
use Rattle.flow_view.proofs.flows.Flows.bodies.Given as goal

abbrev pub invariant-loop-goal : goal.invariant-loop-goal
invariant-loop-goal l = forms_shapes l.bodies.items
    ≡ map (λ (f : Bor Form). many_times (length (names_in l.self)) (named_goal (names_in l.self) (goals_in l.self)) (shape_of f.now)) (take l.goal-index l.self.goals.items)
