use Rattle.flow_model.specs.Verdict.{AreJust}
use Rattle.flow_core.specs.Holding.{IsTakeable}
use Rattle.flow_core.proofs.RisingLists.{Below}
use Rattle.flow_names.proofs.todo.leaves_to_begin.Given as goal

abbrev pub invariant-loop-leaf : goal.invariant-loop-leaf
invariant-loop-leaf l = AreJust (Below (IsTakeable l.core) l.leaf) l.leaves.items
