use Rattle.std.proofs.Common.{◌≡◌, ◌==◌, ℕ, take}
use Rattle.std.specs.List.{list_any}
use Rattle.flow_goal.specs.EventSet.{has_event}
use Rattle.flow_goal.proofs.folds.set_of.Given as goal

abbrev pub invariant-loop-event : goal.invariant-loop-event
invariant-loop-event l = (other : ℕ) → has_event l.set other ≡ list_any (λ event. event == other) (take l.event-index l.events)
