use Rattle.std.proofs.Common.{◌≡◌, ℕ, take, map, Vec, Global, Bor}
use Rattle.flow_form.specs.declared.form.Form.{Form}
use Rattle.flow_form.specs.Form.{shape_of}
use Rattle.flow_form.specs.Names.{names_in}
use Rattle.flow_expand.specs.Calls.{calls_in}
use Rattle.flow_expand.proofs.calls.calls_of.Given as goal

abbrev pub invariant-loop-goal : goal.invariant-loop-goal
invariant-loop-goal l =
    map (λ (v : Vec ℕ Global). v.items) l.calls.items ≡ map (λ (f : Bor Form). calls_in l.directory.flows (names_in (shape_of f.now))) (take l.goal-index l.directory.goals.items)
