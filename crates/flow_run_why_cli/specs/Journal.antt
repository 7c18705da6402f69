-- What is told of a journal: the refusals come in the order of `flow trace`, and the status is its.
use Rattle.std.specs.Prelude.{◌≡◌, ℕ, List, Result, Ok}
use Rattle.flow_form.specs.Script.{Said}
use Rattle.flow_workflow.specs.Definition.{Definition, schema_of}
use Rattle.flow_expand.specs.Workflows.{IsExpanded}
use Rattle.flow_plan.specs.Compilation.{IsCompiled}
use Rattle.flow_record.specs.Journal.{journal_of, journal}
use Rattle.flow_trace.specs.declared.checked.Checked.{Checked}
use Rattle.flow_trace.specs.declared.checked.Checked.TheVariants.{Execution}
use Rattle.flow_trace.specs.Traces.{TellsOfTrace}
use Rattle.flow_findings.specs.declared.refused.Refused.{Refused}
use Rattle.flow_findings.specs.Judging.{checked_text}
use Rattle.flow_front.specs.declared.status.Status.{Status}
use Rattle.flow_front.specs.declared.status.Status.TheVariants.{Fine, No}
use Rattle.flow_front.specs.Refusal.{the_script, the_journal, the_workflow}
use Rattle.flow_front.specs.Stages.{Then}
use Rattle.flow_run_why_cli.specs.Told.{Answer}

-- fine where the journal is an execution
abbrev pub status_of_checked : Checked → Status
status_of_checked Execution = Fine
status_of_checked other = No

-- the status of what a journal is, and flow's line of that
abbrev pub answer_of_checked : Checked → Answer
answer_of_checked checked = record { status = status_of_checked checked; front = checked_text checked }

-- what the leaves are of the workflow
abbrev pub FindsOfLeaves : Definition → List ℕ → Result Answer Refused → Type 0
FindsOfLeaves w leaves came = (checked : Checked) × TellsOfTrace (schema_of w) leaves checked × (came ≡ Ok (answer_of_checked checked))

abbrev pub TracesLeaves : Definition → List ℕ → Result Answer Refused → Type 0
TracesLeaves w leaves came = Then (the_workflow (schema_of w)) (IsCompiled (schema_of w)) (λ c. FindsOfLeaves w leaves) came

-- the lines are read before the workflow is compiled
abbrev pub TracesWorkflow : Definition → List ℕ → Result Answer Refused → Type 0
TracesWorkflow w text came = Then (the_journal w text) (λ leaves. journal_of w text ≡ journal leaves) (TracesLeaves w) came

-- what is said is expanded before the lines are read, since their labels are those of its leaves
abbrev pub TracesText : List ℕ → Said → Result Answer Refused → Type 0
TracesText text s came = Then (the_script s) (IsExpanded s) (λ w. TracesWorkflow w text) came
