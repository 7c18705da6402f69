-- What is told of a list of leaves.
use Rattle.std.specs.Prelude.{◌≡◌, ◌<◌, ◌≤◌, ℕ, ◌+◌, List, length, take}
use Rattle.flow_model.specs.Lists.{Each}
use Rattle.flow_model.specs.Facts.{Runs}
use Rattle.flow_model.specs.Schema.{Schema, start_of, IsGood}
use Rattle.flow_model.specs.Verdict.{IsPossible}
use Rattle.flow_workflow.specs.Definition.{Definition, schema_of}
use Rattle.flow_facts.specs.Course.{Course}
use Rattle.flow_facts.specs.Journals.{labels_at}
use Rattle.flow_trace.specs.declared.checked.Checked.{Checked}
use Rattle.flow_trace.specs.declared.checked.Checked.TheVariants.{Execution, Prefix, Bad}

-- it is possible, and good or not; or so many of its leaves are possible, and with the next one they are not
abbrev pub TellsOfTrace : Schema → List ℕ → Checked → Type 0
TellsOfTrace w list Execution = IsPossible w list × IsGood w list
TellsOfTrace w list Prefix = IsPossible w list × ¬ (IsGood w list)
TellsOfTrace w list (Bad k) = IsPossible w (take k list) × ¬ (IsPossible w (take (k + 1) list))

-- what the workflow's facts have come to
abbrev pub course_at : Definition → List ℕ → Course
course_at d list = record { held = d.held; count = length d.facts; labels = labels_at d.tree.labels list; room = length d.tree.labels }

-- so long a front of the list has labels that hold in turn, and no longer one is possible
pub record HoldsUpTo (d : Definition) (list : List ℕ) (k : ℕ) : Type 0 where
  pub within : k ≤ length list
  pub runs : Runs d.tree.labels (start_of (schema_of d)) (take k list)
  pub no_longer : k < length list → ¬ (IsPossible (schema_of d) (take (k + 1) list))

-- the same as far as it is looked through
pub record HaveHeld (d : Definition) (list : List ℕ) (world : Course) : Type 0 where
  pub runs : Runs d.tree.labels (start_of (schema_of d)) list
  pub leaves_are : Each (λ n. n < length d.tree.labels) list
  pub world_is : world ≡ course_at d list
