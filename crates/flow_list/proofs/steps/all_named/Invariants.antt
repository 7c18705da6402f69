use Rattle.flow_list.specs.Steps.{leaf_of}
use Rattle.flow_list.proofs.ListSteps.{Mapped, itself}
use Rattle.flow_list.proofs.steps.all_named.Given as goal

abbrev pub invariant-loop-leaf : goal.invariant-loop-leaf
invariant-loop-leaf l = Mapped leaf_of itself l.leaves l.leaf-index l.all.items
