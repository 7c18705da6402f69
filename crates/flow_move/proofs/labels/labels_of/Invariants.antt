use Rattle.std.proofs.Common.{◌≡◌, take, map}
use Rattle.flow_workflow.specs.Label.{label_text}
use Rattle.flow_move.proofs.labels.labels_of.Given as goal

abbrev pub invariant-loop-leaf : goal.invariant-loop-leaf
invariant-loop-leaf l = l.labels.items ≡ map (label_text l.workflow) (take l.leaf l.workflow.tree.labels)
