use Rattle.flow_model.specs.Verdict.{AreJust}
use Rattle.flow_core.proofs.RisingLists.{Below}
use Rattle.flow_list.specs.Steps.{IsFreeStep}
use Rattle.flow_list.proofs.steps.free_steps.Given as goal

abbrev pub invariant-loop-leaf : goal.invariant-loop-leaf
invariant-loop-leaf l = AreJust (Below (IsFreeStep l.core) l.leaf) l.leaves.items
