use Rattle.flow_model.specs.Lists.{Each}
use Rattle.flow_list.specs.Tasks.{leaf_of, IsOpenTo}
use Rattle.flow_list.proofs.ListSteps.{Mapped, itself}
use Rattle.flow_list.proofs.tasks.beginnings.Given as goal

abbrev pub invariant-loop-leaf : goal.invariant-loop-leaf
invariant-loop-leaf l = Mapped leaf_of itself l.leaves l.leaf-index l.begin.items × Each (IsOpenTo l.run l.users) l.begin.items
