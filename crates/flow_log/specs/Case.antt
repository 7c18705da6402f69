-- What a list of events is fitted to, and what is known of its facts.
use Rattle.std.specs.Prelude.{◌≡◌, ◌<◌, ◌≤◌, ℕ, Bool, List, [], ◌∷◌, ◌++◌, Option, Some, None, length, take, slice_get, slice_index}
use Rattle.flow_model.specs.declared.labels.Label.{Label}
use Rattle.flow_model.specs.declared.labels.Label.TheVariants.{Event, Test, Absent, Ins, Del}
use Rattle.flow_model.specs.declared.limits.TheConstants.{MOST_LEAVES}
use Rattle.flow_model.specs.Lists.{Each}
use Rattle.flow_model.specs.Facts.{State, Runs, events_of}
use Rattle.flow_model.specs.Resolution.{ChoiceOption}
use Rattle.flow_model.specs.Schema.{Schema, start_of}
use Rattle.flow_workflow.specs.Definition.{schema_of}
use Rattle.flow_plan.specs.Compilation.{AreShared}
use Rattle.flow_model.specs.Folding.{folded_options}
use Rattle.flow_laws.specs.WellFormed.{IsWellFormed, IsConsistent}
use Rattle.flow_plan.specs.Options.{HasExecution, AreJustThose, options_of}
use Rattle.flow_log.specs.declared.case.Case.{Case}

-- the fact of a label, if it has one
abbrev pub fact_in : Label → Option ℕ
fact_in (Event e) = None
fact_in (Test f) = Some f
fact_in (Absent f) = Some f
fact_in (Ins f) = Some f
fact_in (Del f) = Some f

abbrev pub fact_of : Option Label → Option ℕ
fact_of None = None
fact_of (Some label) = fact_in label

-- the fact of which the leaf speaks, if it speaks of one
abbrev pub fact_at : List Label → ℕ → Option ℕ
fact_at labels leaf = fact_of (slice_get labels leaf)

-- for each fact a leaf that speaks of it, or a number that no leaf has
pub record ArePlaces (count : ℕ) (labels : List Label) (places : List ℕ) : Type 0 where
  pub one_each : length places ≡ count
  pub within : (n f : ℕ) → fact_at labels n ≡ Some f → f < count
  pub told : (f : ℕ) → f < count → slice_index places f < length labels → fact_at labels (slice_index places f) ≡ Some f
  pub known : (n f : ℕ) → fact_at labels n ≡ Some f → slice_index places f < length labels

-- at the place of each fact of which a leaf speaks, the set tells whether it holds
abbrev pub AreFacts : List Label → List ℕ → State → (ℕ → Bool) → Type 0
AreFacts labels places s set = (n f : ℕ) → fact_at labels n ≡ Some f → set (slice_index places f) ≡ s f

pub record Fitted : Type 0 where
  pub schema : Schema
  -- of each fact
  pub places : List ℕ
  pub options : List ChoiceOption
  pub events : List ℕ

abbrev pub fitted_of : Case → Fitted
fitted_of c = record { schema = schema_of c.workflow.now; places = c.places.items; options = options_of c.plans.now; events = c.events.now }

-- what every case keeps
pub record IsCase (c : Case) : Type 0 where
  pub places : ArePlaces (length c.workflow.now.facts) c.workflow.now.tree.labels c.places.items
  pub shared : AreShared c.folds.now c.plans.now
  pub small : length c.workflow.now.tree.labels ≤ MOST_LEAVES

-- it is the place of the label's fact
pub record IsPlaceOf (c : Case) (label : Label) (place : ℕ) : Type 0 where
  pub fact : ℕ
  pub is_fact : fact_in label ≡ Some fact
  pub known : fact < length c.workflow.now.facts
  pub is : place ≡ slice_index c.places.items fact

-- and besides, where its plans are just those of the workflow
pub record IsKept (c : Case) : Type 0 where
  pub case : IsCase c
  pub well_formed : IsWellFormed (schema_of c.workflow.now)
  pub consistent : IsConsistent (schema_of c.workflow.now)
  pub plans : AreJustThose HasExecution (folded_options (schema_of c.workflow.now)) (options_of c.plans.now)

-- the leaves are the workflow's, their labels hold in turn, and their events are the first so many
pub record IsBegun (f : Fitted) (list : List ℕ) (count : ℕ) : Type 0 where
  pub leaves_are : Each (λ n. n < length f.schema.labels) list
  pub runs : Runs f.schema.labels (start_of f.schema) list
  pub within : count ≤ length f.events
  pub events_are : events_of f.schema.labels list ≡ take count f.events

-- the event of a label as a list, empty for a silent one
abbrev pub event_list : Label → List ℕ
event_list (Event e) = e ∷ []
event_list (Test f) = []
event_list (Absent f) = []
event_list (Ins f) = []
event_list (Del f) = []

-- behind so many of the events a leaf with the label makes them so many
pub record CountsTo (events : List ℕ) (count : ℕ) (label : Label) (next : ℕ) : Type 0 where
  pub within : next ≤ length events
  pub is : take next events ≡ take count events ++ event_list label
