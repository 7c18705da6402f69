use Rattle.std.proofs.Common.{◌≡◌, ◌<◌, ◌++◌, ℕ, List, Some, length, reverse, slice_get}
use Rattle.flow_log.specs.Case.{Fitted}
use Rattle.flow_log.specs.Search.{AreLed}
use Rattle.flow_log.proofs.points.Points.list_of.Given as goal

abbrev pub invariant-loop-at : goal.invariant-loop-at
invariant-loop-at g l = record {
  inside : l.at < length l.self.points.items;
  led : (f : Fitted) (lists : List (List ℕ)) → AreLed f l.self.points.items lists →
      (front : List ℕ) × (slice_get lists l.at ≡ Some front) × (slice_get lists l.place ≡ Some (front ++ reverse l.leaves.items));
}

abbrev pub decreases-loop-at : goal.decreases-loop-at
decreases-loop-at g l = l.at
