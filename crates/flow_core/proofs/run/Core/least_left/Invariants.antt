use Rattle.std.proofs.Common.{◌<◌, ℕ}
use Rattle.flow_model.specs.Run.{CanDoAside}
use Rattle.flow_core.specs.Run.{schema, now}
use Rattle.flow_core.proofs.run.Core.least_left.Given as goal

abbrev pub invariant-loop-leaf : goal.invariant-loop-leaf
invariant-loop-leaf l = (n : ℕ) → n < l.leaf → ¬ (CanDoAside (schema l.self) (now l.self) n)
