use Rattle.flow_model.specs.Verdict.{AreJust}
use Rattle.flow_core.proofs.RisingLists.{Below}
use Rattle.flow_reason.specs.GivenUp.{IsBannedLeaf}
use Rattle.flow_reason.proofs.given_up.banned_leaves.Given as goal

abbrev pub invariant-loop-leaf : goal.invariant-loop-leaf
invariant-loop-leaf l = AreJust (Below (IsBannedLeaf l.core) l.leaf) l.banned.items
