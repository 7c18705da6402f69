use Rattle.std.proofs.Common.{◌≡◌, take}
use Rattle.flow_lint.proofs.labels.labels_of.Given as goal

abbrev pub invariant-loop-leaf : goal.invariant-loop-leaf
invariant-loop-leaf l = l.labels.items ≡ take l.leaf l.tree.labels
