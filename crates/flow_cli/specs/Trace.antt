-- What `trace` finds.
use Rattle.std.specs.Prelude.{◌≡◌, ℕ, List, Result, Ok}
use Rattle.flow_form.specs.Script.{Said}
use Rattle.flow_workflow.specs.Definition.{Definition, schema_of}
use Rattle.flow_expand.specs.Workflows.{IsExpanded}
use Rattle.flow_plan.specs.Compilation.{IsCompiled}
use Rattle.flow_record.specs.Journal.{journal_of, journal}
use Rattle.flow_trace.specs.declared.checked.Checked.{Checked}
use Rattle.flow_trace.specs.Traces.{TellsOfTrace}
use Rattle.flow_findings.specs.declared.refused.Refused.{Refused}
use Rattle.flow_front.specs.Refusal.{the_script, the_journal, the_workflow}
use Rattle.flow_front.specs.Stages.{Then}
use Rattle.flow_cli.specs.Finding.{Finding, traced}

-- what the leaves are of the workflow
abbrev pub FindsOfLeaves : Definition → List ℕ → Result Finding Refused → Type 0
FindsOfLeaves w leaves came = (checked : Checked) × TellsOfTrace (schema_of w) leaves checked × (came ≡ Ok (traced checked))

abbrev pub TracesLeaves : Definition → List ℕ → Result Finding Refused → Type 0
TracesLeaves w leaves came = Then (the_workflow (schema_of w)) (IsCompiled (schema_of w)) (λ c. FindsOfLeaves w leaves) came

-- the text is the journal, whose lines are read before the workflow is compiled
abbrev pub TracesWorkflow : Definition → List ℕ → Result Finding Refused → Type 0
TracesWorkflow w text came = Then (the_journal w text) (λ leaves. journal_of w text ≡ journal leaves) (TracesLeaves w) came

-- what is said is expanded before the lines are read, since their labels are those of its leaves
abbrev pub TracesText : Said → List ℕ → Result Finding Refused → Type 0
TracesText s text came = Then (the_script s) (IsExpanded s) (λ w. TracesWorkflow w text) came
