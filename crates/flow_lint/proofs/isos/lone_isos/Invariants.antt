use Rattle.std.proofs.Common.{◌≡◌, take}
use Rattle.std.specs.List.{flat_map}
use Rattle.flow_lint.specs.Goals.{lone_isos, shapes_of}
use Rattle.flow_lint.proofs.isos.lone_isos.Given as goal

abbrev pub invariant-loop-goal : goal.invariant-loop-goal
invariant-loop-goal l = l.marks.items ≡ flat_map (lone_isos l.workflow.events) (shapes_of (take l.goal-index l.goals))
