use Rattle.std.proofs.Common.{◌≡◌, ℕ, length, Some, slice_get}
use Rattle.flow_standing.specs.declared.standing.Standing.{Standing}
use Rattle.flow_standing.specs.Standing.{IsStanding}
use Rattle.flow_standing.proofs.standing.standings.Given as goal

abbrev pub invariant-loop-leaf : goal.invariant-loop-leaf
invariant-loop-leaf l = record {
  count : length l.standings.items ≡ l.leaf;
  each : (leaf : ℕ) (standing : Standing) → slice_get l.standings.items leaf ≡ Some standing → IsStanding l.core leaf standing;
}
