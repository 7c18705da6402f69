use Rattle.flow_goal.specs.Repeats.{IsFoundBefore}
use Rattle.flow_goal.proofs.events.twice.Given as goal

abbrev pub invariant-loop-leaf : goal.invariant-loop-leaf
invariant-loop-leaf l = IsFoundBefore l.tree l.leaf l.found
