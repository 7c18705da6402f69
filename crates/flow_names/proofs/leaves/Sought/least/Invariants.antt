use Rattle.std.proofs.Common.{◌<◌, ℕ}
use Rattle.flow_names.specs.Leaves.{IsListed}
use Rattle.flow_names.proofs.leaves.Sought.least.Given as goal

abbrev pub invariant-loop-leaf : goal.invariant-loop-leaf
invariant-loop-leaf l = (n : ℕ) → n < l.leaf → ¬ (IsListed l.core l.self l.listed n)
