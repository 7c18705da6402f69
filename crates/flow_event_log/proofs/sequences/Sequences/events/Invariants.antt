use Rattle.std.proofs.Common.{◌≡◌, ◌≤◌, ◌++◌, List, ℕ, length}
use Rattle.flow_event_log.specs.Reached.{IsReached}
use Rattle.flow_event_log.proofs.sequences.Sequences.events.Given as goal

-- what is left leads on from where the walk is
abbrev pub invariant-loop-at : goal.invariant-loop-at
invariant-loop-at l = (l.at ≤ length l.self.steps.items) × ((latest_first : List ℕ) → IsReached l.self.steps.items l.number latest_first →
    (rest : List ℕ) × IsReached l.self.steps.items l.at rest × (latest_first ≡ l.events.items ++ rest))

abbrev pub decreases-loop-at : goal.decreases-loop-at
decreases-loop-at l = l.at
