use Rattle.std.proofs.Common.{◌≡◌, ◌<◌, ℕ, Some, slice_get}
use Rattle.flow_move.specs.Moves.{on_leaf}
use Rattle.flow_move.specs.Causes.{IsLetByRun, IsCauseOn}
use Rattle.flow_move.proofs.barred.cause_on.Given as goal

abbrev pub invariant-loop-leaf : goal.invariant-loop-leaf
invariant-loop-leaf l = IsCauseOn l.core l.labels l.label l.step l.leaf l.cause
    × ((n : ℕ) → n < l.leaf → slice_get l.labels n ≡ Some l.label → ¬ (IsLetByRun l.core (on_leaf l.step n)))
