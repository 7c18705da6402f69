-- What labels change.
use Rattle.std.specs.Prelude.{ℕ, ◌<◌, Bool, false, not}
use Rattle.flow_model.specs.declared.labels.Label.{Label}
use Rattle.flow_model.specs.declared.labels.Label.TheVariants.{Event, Test, Absent, Ins, Del}
use Rattle.flow_model.specs.Facts.{State}

-- the label's fact, if it has one, has a number below the count
abbrev pub HasFactBelow : ℕ → Label → Type 0
HasFactBelow count (Event e) = Unit {0}
HasFactBelow count (Test f) = f < count
HasFactBelow count (Absent f) = f < count
HasFactBelow count (Ins f) = f < count
HasFactBelow count (Del f) = f < count

-- the label leaves another state than it finds
abbrev pub changes : State → Label → Bool
changes s (Ins f) = not (s f)
changes s (Del f) = s f
changes s other = false
