-- What is told of what to look at in a workflow's text.
use Rattle.std.specs.Prelude.{◌≡◌, ◌≢◌, ◌⊎◌, ℕ, List, [], ◌∷◌}
use Rattle.flow_laws.specs.WellFormed.{IsConsistent}
use Rattle.flow_form.specs.Script.{Said}
use Rattle.flow_text.specs.Saying.{Says}
use Rattle.flow_workflow.specs.Definition.{Definition, schema_of}
use Rattle.flow_plan.specs.Compilation.{IsWithinLimits}
use Rattle.flow_front.specs.declared.status.Status.{Status}
use Rattle.flow_front.specs.declared.status.Status.TheVariants as ending
use Rattle.flow_front.specs.Refusal.{workflow_part}
use Rattle.flow_front.specs.Prepared.{OfWorkflow}
use Rattle.flow_lint.specs.declared.finding.Finding.{Finding}
use Rattle.flow_lint.specs.Finding.{AreFindings}
use Rattle.flow_why_cli.specs.declared.telling.Form.{Form}
use Rattle.flow_why_cli.specs.declared.telling.Form.TheVariants.{Json}
use Rattle.flow_why_cli.specs.Explained.{IsExplained}

-- in words nothing is said
abbrev pub IsQuiet : Form → List ℕ → Type 0
IsQuiet Json output = Unit {0}
IsQuiet form output = output ≡ []

-- where nothing is found the status is 0, and nothing is said; where something is found it is 1
abbrev pub AreTold : List Finding → Form → Status → List ℕ → Type 0
AreTold [] form status output = (status ≡ ending.Fine) × IsQuiet form output
AreTold (one ∷ more) form status output = status ≡ ending.No

-- the workflow is within the limits, some trace meets its constraints, and just what is found of it is told
pub record IsLintedWorkflow (s : Said) (w : Definition) (form : Form) (status : Status) (output : List ℕ) : Type 0 where
  pub within : IsWithinLimits (schema_of w)
  pub consistent : IsConsistent (schema_of w)
  pub found : List Finding
  pub findings : AreFindings s w found
  pub told : AreTold found form status output

-- the text says a workflow of which that is told
abbrev pub IsLintedText : List ℕ → Form → Status → List ℕ → Type 0
IsLintedText text form status output =
    (s : Said) × Says (workflow_part text) s × OfWorkflow s (λ w. IsLintedWorkflow s w form status output)

-- the text is refused or contradicts itself, and that is told as ever; or what is found is told
abbrev pub IsLinted : List ℕ → Form → Status → List ℕ → Type 0
IsLinted text form status output = (IsExplained text form status output × (status ≢ ending.Fine)) ⊎ IsLintedText text form status output
