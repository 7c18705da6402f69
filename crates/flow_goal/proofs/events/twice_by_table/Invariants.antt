use Rattle.flow_goal.specs.Repeats.{IsFoundBefore}
use Rattle.flow_goal.specs.Times.{AreTimes}
use Rattle.flow_goal.proofs.events.twice_by_table.Given as goal

abbrev pub invariant-loop-next : goal.invariant-loop-next
invariant-loop-next l = record {
  found : IsFoundBefore l.tree l.next l.found;
  times : AreTimes l.tree l.next l.table.items;
}
