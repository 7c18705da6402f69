use Rattle.std.proofs.Common.{take}
use Rattle.flow_model.specs.Lists.{◌∈◌}
use Rattle.flow_plan.specs.Rows.{IsRowOf}
use Rattle.flow_plan.proofs.sets.set_of.Given as goal

abbrev pub invariant-loop-leaf : goal.invariant-loop-leaf
invariant-loop-leaf g l = IsRowOf (λ x. x ∈ take l.leaf-index l.leaves) l.set
