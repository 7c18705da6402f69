-- What `run` and `large` write of a workflow in which every task succeeds.
use Rattle.std.specs.Prelude.{◌≡◌, ◌≤◌, ◌+◌, ◌*◌, ℕ, Bool, List, length, Option, Some}
use Rattle.flow_model.specs.declared.limits.TheConstants.{GREATEST_INPUT}
use Rattle.flow_model.specs.declared.history.Call.{Call}
use Rattle.flow_model.specs.declared.history.Entry.{Entry}
use Rattle.flow_model.specs.declared.history.Outcome.{Outcome}
use Rattle.flow_model.specs.Lists.{Each}
use Rattle.flow_model.specs.Verdict.{committed}
use Rattle.flow_laws.specs.WellFormed.{IsConsistent}
use Rattle.flow_laws.specs.Histories.{NeverWaits}
use Rattle.flow_form.specs.Script.{Said}
use Rattle.flow_text.specs.Saying.{Says}
use Rattle.flow_workflow.specs.Definition.{Definition, schema_of}
use Rattle.flow_expand.specs.Workflows.{IsExpanded}
use Rattle.flow_plan.specs.Compilation.{IsWithinLimits}
use Rattle.flow_core.specs.Run.{Run}
use Rattle.flow_crew.specs.Done.{IsPlainStep, NeverFails}
use Rattle.flow_words.specs.declared.request.Mode.TheVariants as mode
use Rattle.flow_words.specs.declared.request.Request.{Request}
use Rattle.flow_words.specs.Words.{IsCall, IsWithin}
use Rattle.flow_front.specs.declared.status.Status.{Status}
use Rattle.flow_front.specs.declared.status.Status.TheVariants.{Fine, ReadFault}
use Rattle.flow_front.specs.Refusal.{workflow_part}
use Rattle.flow_reply.specs.Verdict.{report_of}
use Rattle.flow_reply.specs.declared.summary.Summary.{Summary}
use Rattle.flow_gen.specs.Generated.{generated}
use Rattle.flow_gen.specs.Laws.{choice_count}
use Rattle.flow_cli.specs.Finding.{summary_line}
use Rattle.flow_cli.specs.Large.{IsSummaryOf}
use Rattle.flow_cli.specs.Run.{IsRunOf}
use Rattle.flow_cli.specs.Output.{Writes}

-- the input is not too long, and the workflow is the one that it says
pub record IsInputOf (w : Definition) (input : List ℕ) : Type 0 where
  pub short : length input ≤ GREATEST_INPUT
  pub said : Said
  pub says : Says (workflow_part input) said
  pub expanded : IsExpanded said w

-- the workflow is not too large, some execution meets every constraint, nothing in it waits, and with that gate no task of
-- it fails
pub record AlwaysSucceeds (gives : Call → Outcome → Bool) (w : Definition) : Type 0 where
  pub within : IsWithinLimits (schema_of w)
  pub consistent : IsConsistent (schema_of w)
  pub never_waits : Each NeverWaits w.tree.labels
  pub never_fails : NeverFails gives (schema_of w)

-- the output is the report of a committed run, in which nothing failed, nothing came late and nothing went back
pub record ReportsSuccess (gives : Call → Outcome → Bool) (w : Definition) (steps workers : ℕ) (status : Status) (output : List ℕ) : Type 0 where
  pub last : Run
  pub run : IsRunOf gives w steps workers last committed
  pub plain : Each (λ (entry : Entry). IsPlainStep entry.step) last.history
  pub status_is : status ≡ Fine
  pub output_is : output ≡ report_of last committed

-- With room for two entries a leaf and one more, such a workflow is run to its end at once, whatever the schedule, unless
-- its source fails.
abbrev pub DoneRunsAreReported : Type 0
DoneRunsAreReported = (gives : Call → Outcome → Bool) (words : List (List ℕ)) (request : Request) (input : List ℕ) (w : Definition) →
    IsCall words request → request.mode ≡ mode.Run → IsInputOf w input → AlwaysSucceeds gives w → 2 * length w.tree.labels + 1 ≤ request.steps →
    (status : Status) (output : List ℕ) → ¬ (status ≡ ReadFault) → Writes gives words (Some input) status output →
    ReportsSuccess gives w request.steps request.workers status output

-- ---- `large`

-- The words ask for a run of the generated workflow of a seed and a size, which is this one, no task of it fails with that gate, and there is
-- room for two entries a leaf and one more.
pub record AsksForSuccess (gives : Call → Outcome → Bool) (words : List (List ℕ)) (request : Request) (w : Definition) : Type 0 where
  pub call : IsCall words request
  pub within : IsWithin request
  pub large : request.mode ≡ mode.Large
  pub expanded : IsExpanded (generated request.seed request.size) w
  pub never_fails : NeverFails gives (schema_of w)
  pub room : 2 * (8 * request.size) + 1 ≤ request.steps

-- The output is the line of a committed run, in which nothing failed, nothing came late and nothing went back. Eight leaves a block are done, less
-- four a choice, each by two entries, and one more commits.
pub record TellsSuccess (gives : Call → Outcome → Bool) (request : Request) (w : Definition) (status : Status) (output : List ℕ) : Type 0 where
  pub summary : Summary
  pub is : IsSummaryOf gives w request.seed request.size request.steps request.workers summary committed
  pub plain : Each (λ (entry : Entry). IsPlainStep entry.step) is.last.history
  pub leaves_is : summary.leaves ≡ 8 * request.size
  pub journal_is : summary.journal + 4 * choice_count request.seed request.size ≡ 8 * request.size
  pub history_is : summary.history ≡ 2 * summary.journal + 1
  pub status_is : status ≡ Fine
  pub output_is : output ≡ summary_line summary committed

-- with that room the run is committed, whatever the schedule
abbrev pub DoneLargeRunsAreTold : Type 0
DoneLargeRunsAreTold = (gives : Call → Outcome → Bool) (words : List (List ℕ)) (request : Request) (w : Definition) (source : Option (List ℕ)) →
    AsksForSuccess gives words request w → (status : Status) (output : List ℕ) → Writes gives words source status output → TellsSuccess gives request w status output

-- and what is written depends on the seed and the size alone: not on the gate, the steps, the workers or the schedule
abbrev pub DoneLinesAreSingle : Type 0
DoneLinesAreSingle = (gives allows : Call → Outcome → Bool) (words others : List (List ℕ)) (request other : Request) (w v : Definition) (source from : Option (List ℕ)) →
    AsksForSuccess gives words request w → AsksForSuccess allows others other v → request.seed ≡ other.seed → request.size ≡ other.size →
    (status ending : Status) (output text : List ℕ) → Writes gives words source status output → Writes allows others from ending text →
    (status ≡ ending) × (output ≡ text)
