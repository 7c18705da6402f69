use Rattle.std.proofs.Common.{◌≡◌, ◌≤◌, drop}
use Rattle.flow_sample.specs.LeftLeaves.{left_read, taken_in_all}
use Rattle.flow_sample.proofs.left_leaves.left_leaves.Given as goal

abbrev pub invariant-loop-node : goal.invariant-loop-node
invariant-loop-node l = record {
  all : taken_in_all l.walk (drop l.node-index l.node-items) l.plan.leaves ≡ left_read l.node-items l.plan.leaves 0;
  few : l.walk.passed ≤ l.node-index;
}
