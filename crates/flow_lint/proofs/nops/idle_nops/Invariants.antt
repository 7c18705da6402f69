use Rattle.std.proofs.Common.{◌≡◌, false, take}
use Rattle.std.specs.List.{flat_map}
use Rattle.flow_lint.specs.Goals.{idle_nops, shapes_of}
use Rattle.flow_lint.proofs.nops.idle_nops.Given as goal

abbrev pub invariant-loop-goal : goal.invariant-loop-goal
invariant-loop-goal l = l.marks.items ≡ flat_map (idle_nops false) (shapes_of (take l.goal-index l.goals))
