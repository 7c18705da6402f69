-- What `run` finds.
use Rattle.std.specs.Prelude.{◌≡◌, ◌≤◌, ℕ, Bool, Result, Ok}
use Rattle.flow_model.specs.declared.history.Call.{Call}
use Rattle.flow_model.specs.declared.history.Entry.{Entry}
use Rattle.flow_model.specs.declared.history.Outcome.{Outcome}
use Rattle.flow_model.specs.Lists.{Each}
use Rattle.flow_model.specs.Verdict as model
use Rattle.flow_core.specs.Run.{Run}
use Rattle.flow_core.specs.Lawful.{IsLawful}
use Rattle.flow_crew.specs.Invariant.{IsByWorkers}
use Rattle.flow_form.specs.Script.{Said}
use Rattle.flow_workflow.specs.Definition.{Definition, schema_of}
use Rattle.flow_findings.specs.declared.refused.Refused.{Refused}
use Rattle.flow_reply.specs.declared.verdict.Verdict.{Verdict}
use Rattle.flow_reply.specs.Conclusion.{Means}
use Rattle.flow_front.specs.Stages.{Prepares}
use Rattle.flow_cli.specs.Finding.{Finding, ran}

-- The run is one of this workflow by so many workers, in so many steps at most, where outcomes pass the test of the gate,
-- and it came to this verdict. Of its history the headline holds: it is lawful.
pub record IsRunOf (gives : Call → Outcome → Bool) (w : Definition) (steps workers : ℕ) (last : Run) (meant : model.Verdict) : Type 0 where
  pub definition_is : last.definition ≡ w
  pub limit_is : last.limit ≡ steps
  pub lawful : IsLawful (schema_of w) steps last.history
  -- workers may have made it with that gate: they rewind only where they must, and stop at the first verdict
  pub by_workers : IsByWorkers gives last
  pub callers : Each (λ (entry : Entry). entry.by ≤ workers) last.history
  -- the verdict stands
  pub stands : model.IsRunVerdict (schema_of w) steps last.history meant

-- such a run, with its verdict as the code has it
abbrev pub HasRun : (Call → Outcome → Bool) → Definition → ℕ → ℕ → Run → Verdict → Type 0
HasRun gives w steps workers last verdict = (meant : model.Verdict) × IsRunOf gives w steps workers last meant × Means last verdict meant

-- the workflow is run by workers
abbrev pub RunsWorkflow : (Call → Outcome → Bool) → Definition → ℕ → ℕ → Result Finding Refused → Type 0
RunsWorkflow gives w steps workers came = (last : Run) × ((meant : model.Verdict) × IsRunOf gives w steps workers last meant × (came ≡ Ok (ran last meant)))

abbrev pub RunsSaid : (Call → Outcome → Bool) → Said → ℕ → ℕ → Result Finding Refused → Type 0
RunsSaid gives s steps workers came = Prepares s (λ w c. RunsWorkflow gives w steps workers) came
