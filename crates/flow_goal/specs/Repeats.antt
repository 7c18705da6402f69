-- Two leaves of one event in one execution.
use Rattle.std.specs.Prelude.{◌≡◌, ◌<◌, ◌≤◌, ℕ, List, Bool, if◌then◌else◌, ◌==◌, ◌&&◌, ◌||◌, nat_lt, Option, Some, None, MatchOption, ◌⊎◌}
use Rattle.flow_model.specs.Lists.{◌∈◌, AreDistinct}
use Rattle.flow_model.specs.Trace.{Trace}
use Rattle.flow_model.specs.Facts.{event_at, events_of}
use Rattle.flow_goal.specs.Labelled.{Labelled}
use Rattle.flow_goal.specs.Times.{StandsAgain}
use Rattle.flow_goal.specs.declared.repeats.Twice.{Twice}

-- no execution holds an event twice
abbrev pub HoldsNoneTwice : Labelled → Type 0
HoldsNoneTwice t = (trace : List ℕ) → Trace t.process trace → AreDistinct (events_of t.labels trace)

-- some execution holds both leaves, the first left of the second, and both have the event
pub record HoldsTwice (t : Labelled) (event first second : ℕ) : Type 0 where
  pub apart : first < second
  pub at_first : event_at t.labels first ≡ Some event
  pub at_second : event_at t.labels second ≡ Some event
  pub together : (trace : List ℕ) × Trace t.process trace × (first ∈ trace) × (second ∈ trace)

-- of all such pairs the one with the least first leaf, and of those the one with the least second leaf
pub record IsFirstTwice (t : Labelled) (found : Twice) : Type 0 where
  pub twice : HoldsTwice t found.event found.first found.second
  pub least : (event first second : ℕ) → HoldsTwice t event first second →
      (found.first < first) ⊎ ((found.first ≡ first) × (found.second ≤ second))

-- no pair is of that event
abbrev pub HoldsNoneOf : Labelled → ℕ → Type 0
HoldsNoneOf t event = (first second : ℕ) → ¬ (HoldsTwice t event first second)

-- the first pair of that event
pub record IsFirstOf (t : Labelled) (event : ℕ) (found : Twice) : Type 0 where
  pub twice : HoldsTwice t found.event found.first found.second
  pub least : (first second : ℕ) → HoldsTwice t event first second →
      (found.first < first) ⊎ ((found.first ≡ first) × (found.second ≤ second))

-- no pair is of an event that two leaves before that place have
abbrev pub HoldsNoneBefore : Labelled → ℕ → Type 0
HoldsNoneBefore t stop = (event : ℕ) → StandsAgain t stop event → HoldsNoneOf t event

-- the first pair of those events
pub record IsFirstBefore (t : Labelled) (stop : ℕ) (found : Twice) : Type 0 where
  pub twice : HoldsTwice t found.event found.first found.second
  pub least : (event first second : ℕ) → StandsAgain t stop event → HoldsTwice t event first second →
      (found.first < first) ⊎ ((found.first ≡ first) × (found.second ≤ second))

-- what is found of those events
abbrev pub IsFoundBefore : Labelled → ℕ → Option Twice → Type 0
IsFoundBefore t stop found = MatchOption found (HoldsNoneBefore t stop) (IsFirstBefore t stop)

-- the first of two pairs comes before the second one
abbrev pub is_sooner : Twice → Twice → Bool
is_sooner one other = nat_lt one.first other.first || ((one.first == other.first) && nat_lt one.second other.second)

-- the sooner one of two
abbrev pub sooner : Option Twice → Option Twice → Option Twice
sooner None other = other
sooner (Some one) None = Some one
sooner (Some one) (Some other) = if is_sooner other one then Some other else Some one
