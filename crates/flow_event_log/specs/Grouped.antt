-- The cases of a log: of each case the events that its rows stand for, in the order of the log.
use Rattle.std.specs.Prelude.{◌≡◌, ◌==◌, ◌<◌, ℕ, List, Some, map, filter, length, slice_get, slice_index}
use Rattle.std.proofs.Common.{Vec, Global}
use Rattle.flow_event_log.specs.declared.event_log.Event.{Event}

-- the case of an event, and what its activity stands for
abbrev pub entry_of : List ℕ → Event → ℕ × ℕ
entry_of events_of e = (e.case, slice_index events_of e.activity)

-- what the activities of one case stand for, in order
abbrev pub events_of_case : ℕ → List (ℕ × ℕ) → List ℕ
events_of_case case entries = map (λ (entry : ℕ × ℕ). entry.1) (filter (λ (entry : ℕ × ℕ). entry.0 == case) entries)

-- each case has the number of a sequence, which is that of its events
pub record AreCases (cases : ℕ) (entries : List (ℕ × ℕ)) (of_cases : List ℕ) (sequences : List (Vec ℕ Global)) : Type 0 where
  pub one_each : length of_cases ≡ cases
  pub each : (case : ℕ) → case < cases →
      (events : Vec ℕ Global) × (slice_get sequences (slice_index of_cases case) ≡ Some events) × (events.items ≡ events_of_case case entries)
