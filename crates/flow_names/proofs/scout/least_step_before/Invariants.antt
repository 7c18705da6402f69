use Rattle.std.proofs.Common.{◌<◌, ℕ}
use Rattle.flow_names.specs.Steps.{IsStepBefore}
use Rattle.flow_names.proofs.scout.least_step_before.Given as goal

abbrev pub invariant-loop-step : goal.invariant-loop-step
invariant-loop-step l = (n : ℕ) → n < l.step → ¬ (IsStepBefore l.core l.leaf n)
