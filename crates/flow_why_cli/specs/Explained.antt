-- What is told of a workflow's text: as flow check would tell it first, and then why.
use Rattle.std.specs.Prelude.{◌≡◌, ◌⊎◌, ℕ, List, [], Some, codes}
use Rattle.flow_model.specs.Lists.{Begins}
use Rattle.flow_form.specs.Script.{Said}
use Rattle.flow_form.specs.Names.{event_names}
use Rattle.flow_text.specs.Saying.{Says}
use Rattle.flow_workflow.specs.Definition.{Definition, schema_of}
use Rattle.flow_laws.specs.WellFormed.{IsConsistent}
use Rattle.flow_plan.specs.Compilation.{IsWithinLimits}
use Rattle.flow_excise.specs.declared.refusal.CompileRefusal.TheVariants.{Inconsistent}
use Rattle.flow_findings.specs.declared.refused.Refused.{Refused}
use Rattle.flow_findings.specs.declared.refused.Refused.TheVariants as refused
use Rattle.flow_findings.specs.Refusing.{refused_text}
use Rattle.flow_front.specs.declared.status.Status.{Status}
use Rattle.flow_front.specs.declared.status.Status.TheVariants as ending
use Rattle.flow_front.specs.declared.stop.Stop.{Stop}
use Rattle.flow_front.specs.declared.stop.Stop.TheVariants as stop
use Rattle.flow_front.specs.Status.{status_of}
use Rattle.flow_front.specs.Refusal.{the_source, the_script, the_workflow, workflow_part, IsCause}
use Rattle.flow_front.specs.Prepared.{OfWorkflow}
use Rattle.flow_why_cli.specs.declared.telling.Form.{Form}
use Rattle.flow_why_cli.specs.declared.telling.Form.TheVariants.{Words, WithCircles, Json}

-- in words, the text begins with that one
abbrev pub BeginsInWords : Form → List ℕ → List ℕ → Type 0
BeginsInWords Words text front = Begins text front
BeginsInWords WithCircles text front = Begins text front
BeginsInWords Json text front = Unit {0}

-- the lines that flow tells first: of an inconsistent workflow that it is so, and of another refusal all
abbrev pub first_lines : List (List ℕ) → Refused → List ℕ
first_lines events (refused.Compile (Inconsistent dropped)) = codes "inconsistent\n"
first_lines events why = refused_text events why

-- the status is flow's of that refusal, and so are the first lines, events by these names
pub record TellsFirst (events : List (List ℕ)) (why : Refused) (form : Form) (status : Status) (output : List ℕ) : Type 0 where
  pub status_is : status ≡ status_of why
  pub begins : BeginsInWords form output (first_lines events why)

-- that is told of a refusal with such a cause
abbrev pub IsExplainedBy : List (List ℕ) → (Refused → Type 0) → Form → Status → List ℕ → Type 0
IsExplainedBy events Cause form status output = (why : Refused) × Cause why × TellsFirst events why form status output

-- that is told of what stopped flow
abbrev pub IsExplainedStop : List (List ℕ) → Stop → Form → Status → List ℕ → Type 0
IsExplainedStop events (stop.Refused why) form status output = TellsFirst events why form status output
IsExplainedStop events stop.NoMemory form status output = ⊥

-- the workflow is within the limits and some trace meets its constraints, and that is told
pub record IsFine (w : Definition) (form : Form) (status : Status) (output : List ℕ) : Type 0 where
  pub within : IsWithinLimits (schema_of w)
  pub consistent : IsConsistent (schema_of w)
  pub status_is : status ≡ ending.Fine
  pub begins : BeginsInWords form output (codes "consistent\n")

-- the workflow is fine, or its first refusal is told
abbrev pub IsExplainedWorkflow : List (List ℕ) → Definition → Form → Status → List ℕ → Type 0
IsExplainedWorkflow events w form status output =
    IsFine w form status output ⊎ IsExplainedBy events (IsCause (the_workflow (schema_of w))) form status output

-- what is said makes no workflow, for the first reason, or one that is told
abbrev pub IsExplainedOf : Said → Form → Status → List ℕ → Type 0
IsExplainedOf s form status output =
    IsExplainedBy (event_names s.decls) (IsCause (the_script s)) form status output
    ⊎ OfWorkflow s (λ w. IsExplainedWorkflow (event_names s.decls) w form status output)

-- the text says nothing, for the first reason, or something that is told
abbrev pub IsExplained : List ℕ → Form → Status → List ℕ → Type 0
IsExplained text form status output =
    IsExplainedBy [] (IsCause (the_source (Some text))) form status output
    ⊎ ((s : Said) × Says (workflow_part text) s × IsExplainedOf s form status output)
