use Rattle.std.proofs.Common.{take}
use Rattle.flow_trace.specs.Traces.{HaveHeld}
use Rattle.flow_trace.proofs.labels.held_front.Given as goal

abbrev pub invariant-loop-place : goal.invariant-loop-place
invariant-loop-place l = HaveHeld l.workflow (take l.place l.leaves) l.world
