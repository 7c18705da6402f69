use Rattle.std.proofs.Common.{◌≡◌, take, []}
use Rattle.flow_plan.specs.Options.{options_of}
use Rattle.flow_reason.proofs.in_the_way.after_leaves.Given as goal

abbrev pub invariant-loop-leaf : goal.invariant-loop-leaf
invariant-loop-leaf l = record {
  options : l.residual.options ≡ options_of l.fn.compiled.plans;
  journal : l.residual.journal ≡ take l.leaf-index l.leaves;
  bans : l.residual.bans ≡ [];
}
