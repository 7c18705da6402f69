-- How a list of events fits a workflow. A number that no event of the workflow has stands for an activity that it does not know.
use Rattle.std.specs.Prelude.{◌≡◌, ◌<◌, ◌≤◌, ℕ, ◌+◌, List, length, take, slice_index}
use Rattle.flow_model.specs.Lists.{Each, AreDistinct, Begins}
use Rattle.flow_model.specs.Facts.{events_of}
use Rattle.flow_model.specs.Schema.{Schema, IsExecution}
use Rattle.flow_model.specs.Verdict.{IsPossible}
use Rattle.flow_workflow.specs.Definition.{Definition, schema_of}
use Rattle.flow_log.specs.declared.verdict.Fit.{Fit}
use Rattle.flow_log.specs.declared.verdict.Fit.TheVariants.{Execution, Front, Deviates, Unknown, Undecided}

-- the list of leaves is an execution, and these are its events in order: silent leaves stand between them
abbrev pub IsExecutionOf : Schema → List ℕ → List ℕ → Type 0
IsExecutionOf w events list = IsExecution w list × (events_of w.labels list ≡ events)

-- the list of leaves is possible, and these are its events in order
abbrev pub IsFrontOf : Schema → List ℕ → List ℕ → Type 0
IsFrontOf w events list = IsPossible w list × (events_of w.labels list ≡ events)

-- some execution has just these events
abbrev pub FitsWhole : Schema → List ℕ → Type 0
FitsWhole w events = (list : List ℕ) × IsExecutionOf w events list

-- some possible list has just these events
abbrev pub FitsFront : Schema → List ℕ → Type 0
FitsFront w events = (list : List ℕ) × IsFrontOf w events list

-- the first so many events fit as a front, and with the next one they do not
pub record FitsUpTo (w : Schema) (events : List ℕ) (at : ℕ) : Type 0 where
  pub within : at < length events
  pub fits : FitsFront w (take at events)
  pub no_longer : ¬ (FitsFront w (take (at + 1) events))

-- at least so many different lists of leaves are possible, and the events of each begin the list of events
pub record BeginInWays (w : Schema) (events : List ℕ) (count : ℕ) : Type 0 where
  pub lists : List (List ℕ)
  pub many : count ≤ length lists
  pub different : AreDistinct lists
  pub each : Each (λ list. IsPossible w list × Begins events (events_of w.labels list)) lists

-- what is told of the events, with a budget of so many states
abbrev pub TellsOfFit : Definition → List ℕ → ℕ → Fit → Type 0
TellsOfFit d events budget (Execution list) = IsExecutionOf (schema_of d) events list.items
TellsOfFit d events budget (Front list) = IsFrontOf (schema_of d) events list.items × ¬ (FitsWhole (schema_of d) events)
TellsOfFit d events budget (Deviates at) = FitsUpTo (schema_of d) events at × (slice_index events at < length d.events)
TellsOfFit d events budget (Unknown at) = FitsUpTo (schema_of d) events at × (length d.events ≤ slice_index events at)
TellsOfFit d events budget Undecided = BeginInWays (schema_of d) events budget

-- the two tell the same, whichever lists show it; what is undecided is told by nothing
abbrev pub IsOneVerdict : Fit → Fit → Type 0
IsOneVerdict Undecided other = Unit {0}
IsOneVerdict one Undecided = Unit {0}
IsOneVerdict (Execution list) (Execution other) = Unit {0}
IsOneVerdict (Front list) (Front other) = Unit {0}
IsOneVerdict (Deviates at) (Deviates other) = at ≡ other
IsOneVerdict (Unknown at) (Unknown other) = at ≡ other
IsOneVerdict one other = ⊥
