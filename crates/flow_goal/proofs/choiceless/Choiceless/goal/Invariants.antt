use Rattle.std.proofs.Common.{◌≡◌, ◌≤◌, drop}
use Rattle.flow_goal.specs.Written.{read_on, goals_on}
use Rattle.flow_goal.proofs.choiceless.Choiceless.goal.Given as goal

abbrev pub invariant-loop-node : goal.invariant-loop-node
invariant-loop-node l = record {
  place : l.place ≤ l.node-index;
  read : read_on (drop l.node-index l.node-items) l.self-inside.leaves.items l.place (goals_on l.stack.items) ≡ l.self.process;
}
