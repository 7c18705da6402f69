-- An event log as rows: each is a case and an activity.
use Rattle.std.specs.Prelude.{◌≡◌, ◌<◌, ℕ, List, Some, map, slice_get}
use Rattle.flow_event_log.specs.declared.event_log.Event.{Event}
use Rattle.flow_event_log.specs.Buckets.{name_at}

-- the numbers that events have are those of names
abbrev pub AreNumbered : ℕ → ℕ → List Event → Type 0
AreNumbered cases activities events = (k : ℕ) (e : Event) → slice_get events k ≡ Some e → (e.case < cases) × (e.activity < activities)

-- the case and the activity of an event
abbrev pub row_of : List (List ℕ) → List (List ℕ) → Event → List ℕ × List ℕ
row_of cases activities e = (name_at cases e.case, name_at activities e.activity)

-- the rows of a log in the order of its file
abbrev pub rows_of : List (List ℕ) → List (List ℕ) → List Event → List (List ℕ × List ℕ)
rows_of cases activities events = map (row_of cases activities) events
