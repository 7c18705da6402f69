use Rattle.std.proofs.Common.{◌≡◌, ◌≤◌, length}
use Rattle.flow_goal.specs.Times.{AreTimes}
use Rattle.flow_goal.proofs.batches.places_of.Given as goal

abbrev pub invariant-loop-leaf : goal.invariant-loop-leaf
invariant-loop-leaf l = record {
  times : AreTimes l.tree l.leaf l.table.items;
  long : length l.places.items ≡ length l.table.items;
  few : l.count ≤ l.leaf;
}
