use Rattle.flow_model.specs.Verdict.{AreJust}
use Rattle.flow_reason.specs.Facts.{IsLeftTo}
use Rattle.flow_core.proofs.RisingLists.{Below}
use Rattle.flow_reason.proofs.facts.left_to.Given as goal

abbrev pub invariant-loop-leaf : goal.invariant-loop-leaf
invariant-loop-leaf l = AreJust (Below (IsLeftTo l.core l.fact l.wanted) l.leaf) l.left.items
