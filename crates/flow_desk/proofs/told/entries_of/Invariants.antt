use Rattle.std.proofs.Common.{◌≡◌, ◌++◌, drop}
use Rattle.flow_desk.specs.Told.{entries_from}
use Rattle.flow_desk.proofs.told.entries_of.Given as goal

abbrev pub invariant-loop-leaf : goal.invariant-loop-leaf
invariant-loop-leaf l =
    l.entries.items ++ entries_from l.workflow.tree.labels l.claims (drop l.leaf-index l.leaves) ≡ entries_from l.workflow.tree.labels 0 l.leaves
