use Rattle.std.proofs.Common.{◌≡◌, ◌<◌, ◌≤◌, ℕ, slice_get, Some}
use Rattle.flow_expand.specs.Lay.{IsLaidAt}
use Rattle.flow_expand.proofs.settlement.first_unlaid.Given as goal

abbrev pub invariant-loop-place : goal.invariant-loop-place
invariant-loop-place l = (i j : ℕ) → l.start ≤ i → i < l.place → slice_get l.calls i ≡ Some j → IsLaidAt l.laid j
