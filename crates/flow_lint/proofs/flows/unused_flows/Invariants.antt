use Rattle.std.proofs.Common.{◌≡◌, map, take}
use Rattle.flow_form.specs.Script.{declared}
use Rattle.flow_lint.specs.Goals.{is_unused, shapes_of}
use Rattle.flow_lint.proofs.flows.unused_flows.Given as goal

abbrev pub invariant-loop-decl : goal.invariant-loop-decl
invariant-loop-decl l = l.marks.items ≡ map (is_unused (shapes_of l.goals)) (map declared (take l.decl-index l.decls))
