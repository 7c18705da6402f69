use Rattle.std.proofs.Common.{IsTrue, take}
use Rattle.leaf_rows.specs.Leaves.{has_leaf}
use Rattle.flow_model.specs.Lists.{Each}
use Rattle.flow_plan.proofs.steps.first_lacking.Given as goal

abbrev pub invariant-loop-leaf : goal.invariant-loop-leaf
invariant-loop-leaf g l = Each (λ n. IsTrue (has_leaf l.set n)) (take l.leaf-index l.list)
