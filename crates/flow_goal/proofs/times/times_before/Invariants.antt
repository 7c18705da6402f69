use Rattle.flow_goal.specs.Times.{Stands}
use Rattle.flow_goal.proofs.times.times_before.Given as goal

abbrev pub invariant-loop-other : goal.invariant-loop-other
invariant-loop-other l = Stands l.tree l.other l.event l.times
