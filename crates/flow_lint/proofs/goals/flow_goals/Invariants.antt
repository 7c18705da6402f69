use Rattle.std.proofs.Common.{◌≡◌, map, take}
use Rattle.std.specs.List.{flat_map}
use Rattle.flow_form.specs.Script.{declared}
use Rattle.flow_form.specs.Names.{flow_goal}
use Rattle.flow_lint.specs.Goals.{shapes_of}
use Rattle.flow_lint.proofs.goals.flow_goals.Given as goal

abbrev pub invariant-loop-decl : goal.invariant-loop-decl
invariant-loop-decl l = shapes_of l.goals.items ≡ flat_map flow_goal (map declared (take l.decl-index l.decls))
