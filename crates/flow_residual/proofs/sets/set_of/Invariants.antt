use Rattle.std.proofs.Common.{take}
use Rattle.flow_residual.specs.Telling.{IsSetOf}
use Rattle.flow_residual.proofs.sets.set_of.Given as goal

abbrev pub invariant-loop-leaf : goal.invariant-loop-leaf
invariant-loop-leaf l = IsSetOf (take l.leaf-index l.leaves) l.set
