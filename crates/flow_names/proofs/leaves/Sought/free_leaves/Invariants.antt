use Rattle.flow_model.specs.Verdict.{AreJust}
use Rattle.flow_core.proofs.RisingLists.{Below}
use Rattle.flow_names.specs.Meaning.{IsFree}
use Rattle.flow_names.proofs.leaves.Sought.free_leaves.Given as goal

abbrev pub invariant-loop-leaf : goal.invariant-loop-leaf
invariant-loop-leaf l = AreJust (Below (IsFree l.core l.self) l.leaf) l.leaves.items
