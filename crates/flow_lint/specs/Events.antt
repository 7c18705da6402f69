-- Events that no leaf has.
use Rattle.std.specs.Prelude.{ℕ, Bool, false, ◌==◌, IsTrue, List}
use Rattle.std.specs.List.{list_any}
use Rattle.flow_model.specs.declared.labels.Label.{Label}
use Rattle.flow_model.specs.declared.labels.Label.TheVariants.{Event, Test, Absent, Ins, Del}

-- the label is that event
abbrev pub happens : ℕ → Label → Bool
happens event (Event e) = e == event
happens event (Test f) = false
happens event (Absent f) = false
happens event (Ins f) = false
happens event (Del f) = false

-- some leaf is that event
abbrev pub is_used : List Label → ℕ → Bool
is_used labels event = list_any (happens event) labels

-- no leaf is
abbrev pub IsUnused : List Label → ℕ → Type 0
IsUnused labels event = ¬ (IsTrue (is_used labels event))
