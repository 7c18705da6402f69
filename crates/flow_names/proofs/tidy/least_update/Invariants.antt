use Rattle.std.proofs.Common.{◌<◌, ℕ}
use Rattle.flow_names.specs.Tidy.{IsUpdateNow}
use Rattle.flow_names.proofs.tidy.least_update.Given as goal

abbrev pub invariant-loop-leaf : goal.invariant-loop-leaf
invariant-loop-leaf l = (n : ℕ) → n < l.leaf → ¬ (IsUpdateNow l.core n)
