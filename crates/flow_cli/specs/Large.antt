-- What `large` finds.
use Rattle.std.specs.Prelude.{◌≡◌, ℕ, Bool, length, Result, Ok}
use Rattle.flow_model.specs.declared.history.Call.{Call}
use Rattle.flow_model.specs.declared.history.Outcome.{Outcome}
use Rattle.flow_model.specs.Verdict as model
use Rattle.flow_core.specs.Run.{Run, now}
use Rattle.flow_plan.specs.declared.counts.Counts.{Counts}
use Rattle.flow_plan.specs.Compilation.{Compilation, IsCompiled}
use Rattle.flow_gen.specs.Generated.{generated}
use Rattle.flow_workflow.specs.Definition.{Definition, schema_of}
use Rattle.flow_findings.specs.declared.refused.Refused.{Refused}
use Rattle.flow_reply.specs.declared.summary.Summary.{Summary}
use Rattle.flow_reply.specs.declared.verdict.Verdict.{Verdict}
use Rattle.flow_reply.specs.Conclusion.{Means}
use Rattle.flow_front.specs.Prepared.{OfWorkflow}
use Rattle.flow_cli.specs.Run.{IsRunOf}
use Rattle.flow_cli.specs.Finding.{Finding, summarized}

-- the numbers of a run and of its workflow, which is compiled with these counts
abbrev pub summary_of : Counts → ℕ → ℕ → Run → Verdict → Summary
summary_of counts seed size last verdict = record {
  bulk = counts.bulk;
  history = length last.history;
  journal = length (now last).journal;
  leaves = length last.definition.tree.labels;
  live = counts.live;
  options = counts.options;
  resolutions = counts.resolutions;
  seed = seed;
  size = size;
  verdict = verdict;
}

-- the numbers are those of a run of this workflow
pub record IsSummaryOf (gives : Call → Outcome → Bool) (w : Definition) (seed size steps workers : ℕ) (summary : Summary) (meant : model.Verdict) : Type 0 where
  pub compilation : Compilation
  pub compiled : IsCompiled (schema_of w) compilation
  pub live_counted : compilation.counts.live ≡ length compilation.plans
  pub last : Run
  pub run : IsRunOf gives w steps workers last meant
  pub verdict : Verdict
  pub means : Means last verdict meant
  pub summary_is : summary ≡ summary_of compilation.counts seed size last verdict

-- the generated workflow is run by workers: it is never refused
abbrev pub RunsGenerated : (Call → Outcome → Bool) → ℕ → ℕ → ℕ → ℕ → Result Finding Refused → Type 0
RunsGenerated gives seed size steps workers came = OfWorkflow (generated seed size) (λ w.
    (summary : Summary) × ((meant : model.Verdict) × IsSummaryOf gives w seed size steps workers summary meant × (came ≡ Ok (summarized summary meant))))
