use Rattle.std.proofs.Common.{take}
use Rattle.flow_model.specs.Lists.{◌∈◌, AreDistinct}
use Rattle.flow_plan.specs.Rows.{IsRowOf}
use Rattle.flow_plan.proofs.claims.distinct.Given as goal

abbrev pub invariant-loop-leaf : goal.invariant-loop-leaf
invariant-loop-leaf l = record {
  distinct : AreDistinct (take l.leaf-index l.list);
  set : IsRowOf (λ x. x ∈ take l.leaf-index l.list) l.set;
}
