-- Sequences of events in a tree: each is another one with an event more, and the empty one has number 0.
use Rattle.std.specs.Prelude.{◌≡◌, ◌<◌, ◌≤◌, ◌-◌, ℕ, List, [], ◌∷◌, Some, slice_get}
use Rattle.flow_event_log.specs.declared.sequences.Step.{Step}

-- a step leads from a sequence that was there before it
abbrev pub AreOlder : List Step → Type 0
AreOlder steps = (k : ℕ) (s : Step) → slice_get steps k ≡ Some s → s.before ≤ k

-- the step to the sequence of that number
pub record IsStepAt (steps : List Step) (number before event : ℕ) : Type 0 where
  pub step : Step
  pub some : 0 < number
  pub stands : slice_get steps (number - 1) ≡ Some step
  pub from : step.before ≡ before
  pub by : step.event ≡ event

-- the sequence of that number has these events, the last one first
abbrev pub IsReached : List Step → ℕ → List ℕ → Type 0
IsReached steps number [] = number ≡ 0
IsReached steps number (event ∷ events) = (before : ℕ) × IsStepAt steps number before event × IsReached steps before events
