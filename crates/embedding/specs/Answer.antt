-- What is written for a source: the report of a run, or why there is none.
use Rattle.std.specs.Prelude.{◌≡◌, ◌⊎◌, ℕ, true, List, [], Option}
use Rattle.flow_model.specs.Verdict as model
use Rattle.flow_form.specs.Script.{Said}
use Rattle.flow_form.specs.Names.{event_names}
use Rattle.flow_workflow.specs.Definition.{Definition}
use Rattle.flow_expand.specs.Workflows.{IsExpanded}
use Rattle.flow_core.specs.Run.{Run, schema}
use Rattle.flow_core.specs.Lawful.{IsLawful}
use Rattle.flow_core.specs.declared.end.End.{End}
use Rattle.flow_crew.specs.Ends.{IsEnd}
use Rattle.flow_crew.specs.Invariant.{IsByWorkers}
use Rattle.flow_reply.specs.declared.verdict.Verdict.TheVariants.{Ended}
use Rattle.flow_reply.specs.Conclusion.{Means}
use Rattle.flow_reply.specs.Report.{IsReport}
use Rattle.flow_findings.specs.declared.refused.Refused.{Refused}
use Rattle.flow_front.specs.declared.status.Status.{Status}
use Rattle.flow_front.specs.Status.{Tells}
use Rattle.flow_front.specs.Refusal.{the_source, IsCause}
use Rattle.flow_front.specs.Input.{IsInputOf}
use Rattle.flow_front.specs.Prepared.{IsNotPrepared}
use Rattle.flow_reply.specs.Verdict.{ended}

-- The text is the report of a run of this workflow by workers, in so many entries at most, and the status that of what it came to.
pub record IsReported (w : Definition) (steps : ℕ) (status : Status) (text : List ℕ) : Type 0 where
  pub last : Run
  pub definition_is : last.definition ≡ w
  pub limit_is : last.limit ≡ steps
  -- each entry was legal, and where the run is committed its journal is an execution that meets every constraint
  pub lawful : IsLawful (schema last) last.limit last.history
  -- it went back only where it must, and stopped at the first verdict
  pub by_workers : IsByWorkers (λ call outcome. true) last
  pub came_to : End
  pub stands : IsEnd last came_to
  pub status_is : (meant : model.Verdict) → Means last (Ended came_to) meant → status ≡ ended meant
  pub report : IsReport last (Ended came_to) text

-- a refusal with such a cause is told, events by these names
abbrev pub IsRefusal : List (List ℕ) → (Refused → Type 0) → Status → List ℕ → Type 0
IsRefusal events Cause status text = (why : Refused) × Cause why × Tells events why status text

-- The source is refused, or what it says, or the workflow that it says is run and reported.
abbrev pub IsAnswer : Option (List ℕ) → ℕ → Status → List ℕ → Type 0
IsAnswer source steps status text =
    IsRefusal [] (IsCause (the_source source)) status text
    ⊎ ((s : Said) × ((second : List ℕ) × IsInputOf source s second
    × (IsRefusal (event_names s.decls) (IsNotPrepared s) status text ⊎ ((w : Definition) × IsExpanded s w × IsReported w steps status text))))
