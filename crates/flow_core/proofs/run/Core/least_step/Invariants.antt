use Rattle.std.proofs.Common.{◌<◌, ℕ}
use Rattle.flow_core.specs.Next.{CanStep}
use Rattle.flow_core.proofs.run.Core.least_step.Given as goal

abbrev pub invariant-loop-leaf : goal.invariant-loop-leaf
invariant-loop-leaf l = (n : ℕ) → n < l.leaf → ¬ (CanStep l.self n)
