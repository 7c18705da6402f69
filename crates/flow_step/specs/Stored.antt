-- What is kept, where each record that is written is put behind the history.
use Rattle.std.specs.Prelude.{◌≡◌, ◌≤◌, ℕ, List, [], ◌++◌}
use Rattle.flow_model.specs.declared.history.Entry.{Entry}
use Rattle.flow_model.specs.declared.limits.TheConstants.{MOST_ENTRIES}
use Rattle.flow_form.specs.Script.{Said}
use Rattle.flow_text.specs.Saying.{Says}
use Rattle.flow_workflow.specs.Definition.{Definition, schema_of}
use Rattle.flow_expand.specs.Workflows.{IsExpanded}
use Rattle.flow_core.specs.Lawful.{IsLawful}
use Rattle.flow_step.specs.Records.{records_of, entries_in}
use Rattle.flow_step.specs.Step.{Steps}
use Rattle.flow_step.specs.declared.stepped.Stepped.{Stepped}
use Rattle.flow_step.specs.declared.stepped.Stepped.TheVariants.{Made, Refused}

-- the bytes are the records of a lawful history of the workflow that the text says
pub record IsHistoryOf (text bytes : List ℕ) : Type 0 where
  pub said : Said
  pub says : Says text said
  pub workflow : Definition
  pub expanded : IsExpanded said workflow
  pub limit : ℕ
  pub few : limit ≤ MOST_ENTRIES
  pub entries : List Entry
  pub told : bytes ≡ records_of entries
  pub lawful : IsLawful (schema_of workflow) limit entries

-- the records that are to be kept besides
abbrev pub written : Stepped → List ℕ
written (Made entry reply next) = records_of (entries_in entry)
written (Refused refusal entry reply) = records_of (entries_in entry)
written other = []

-- the history was followed, and the line was given
abbrev pub WasGiven : Stepped → Type 0
WasGiven (Made entry reply next) = Unit {0}
WasGiven (Refused refusal entry reply) = Unit {0}
WasGiven other = ⊥

-- Whoever keeps the records that a step writes behind those that it was given keeps a lawful history.
abbrev pub WhatIsStoredIsLegal : Type 0
WhatIsStoredIsLegal = (text policy history : List ℕ) (by : ℕ) (line : List ℕ) (stepped : Stepped) →
    Steps text policy history by line stepped → WasGiven stepped → IsHistoryOf text (history ++ written stepped)
