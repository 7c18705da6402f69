-- Events by their numbers.
use Rattle.std.specs.Prelude.{◌<◌, ℕ, List}
use Rattle.std.specs.List.{position_or_len}
use Rattle.std.specs.Str.{bytes_eq}
use Rattle.flow_model.specs.declared.labels.Label.{Label}
use Rattle.flow_model.specs.declared.labels.Label.TheVariants.{Event, Test, Absent, Ins, Del}

-- the number of an event: its place among the names of events
abbrev pub event_number : List (List ℕ) → List ℕ → ℕ
event_number events n = position_or_len (bytes_eq n) events

-- the label's event or fact has a number below the count of its kind
abbrev pub IsKnown : ℕ → ℕ → Label → Type 0
IsKnown events facts (Event e) = e < events
IsKnown events facts (Test f) = f < facts
IsKnown events facts (Absent f) = f < facts
IsKnown events facts (Ins f) = f < facts
IsKnown events facts (Del f) = f < facts
