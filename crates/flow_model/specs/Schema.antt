-- A workflow as its executions are judged: sub-workflows in place, nothing compiled.
use Rattle.std.specs.Prelude.{◌≡◌, ◌<◌, ℕ, List, length, None, IsSome}
use Rattle.flow_model.specs.declared.labels.Label.{Label}
use Rattle.flow_model.specs.declared.labels.Note.{Note}
use Rattle.flow_model.specs.Lists.{AreDistinct, Each}
use Rattle.flow_model.specs.Process.{Process}
use Rattle.flow_model.specs.Trace.{Trace}
use Rattle.flow_model.specs.Facts.{State, state_with, event_at, events_of, Runs}
use Rattle.flow_model.specs.Constraint.{Constraint, Meets}

pub record Schema : Type 0 where
  pub goal : Process
  -- of each leaf
  pub labels : List Label
  pub rules : List Constraint
  -- what holds at the start
  pub facts : List ℕ
  -- of each event
  pub notes : List Note

-- what holds at the start
abbrev pub start_of : Schema → State
start_of w = state_with w.facts

-- the leaf is an event's
abbrev pub IsEventLeaf : Schema → ℕ → Type 0
IsEventLeaf w n = IsSome (event_at w.labels n)

-- the leaf is a test, an absence, an insertion or a deletion
abbrev pub IsOtherLeaf : Schema → ℕ → Type 0
IsOtherLeaf w n = (n < length w.labels) × (event_at w.labels n ≡ None)

-- t is an execution of the goal in event order, and its events meet every constraint
abbrev pub IsGood : Schema → List ℕ → Type 0
IsGood w t = Trace w.goal t × Each (λ rule. Meets rule (events_of w.labels t)) w.rules

-- t is an execution of the logic that meets every constraint: besides, its tests hold in turn
abbrev pub IsExecution : Schema → List ℕ → Type 0
IsExecution w t = IsGood w t × Runs w.labels (start_of w) t

-- no execution holds an event twice
abbrev pub HasUniqueEvents : Schema → Type 0
HasUniqueEvents w = (t : List ℕ) → Trace w.goal t → AreDistinct (events_of w.labels t)
