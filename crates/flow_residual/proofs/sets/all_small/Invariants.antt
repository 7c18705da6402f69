use Rattle.std.proofs.Common.{◌↔◌, ◌<◌, drop}
use Rattle.flow_model.specs.declared.limits.TheConstants.{MOST_LEAVES}
use Rattle.flow_model.specs.Lists.{Each}
use Rattle.flow_residual.proofs.sets.all_small.Given as goal

abbrev pub invariant-loop-leaf : goal.invariant-loop-leaf
invariant-loop-leaf l = Each (λ n. n < MOST_LEAVES) l.list ↔ Each (λ n. n < MOST_LEAVES) (drop l.leaf-index l.list)
