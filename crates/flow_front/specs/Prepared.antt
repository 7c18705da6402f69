-- What a script is prepared to.
use Rattle.std.specs.Prelude.{◌⊎◌}
use Rattle.flow_form.specs.Script.{Said}
use Rattle.flow_workflow.specs.Definition.{Definition, schema_of}
use Rattle.flow_expand.specs.Workflows.{IsExpanded}
use Rattle.flow_plan.specs.Compilation.{Compilation, IsCompiled}
use Rattle.flow_findings.specs.declared.refused.Refused.{Refused}
use Rattle.flow_front.specs.Refusal.{the_script, the_workflow, IsCause}

-- the workflow that is said has P
abbrev pub OfWorkflow : Said → (Definition → Type 0) → Type 0
OfWorkflow s P = (w : Definition) × IsExpanded s w × P w

-- the workflow is that which is said, and that is what it is compiled to
abbrev pub IsPrepared : Said → Definition → Compilation → Type 0
IsPrepared s w c = IsExpanded s w × IsCompiled (schema_of w) c

-- what is said has no workflow, or that is not compiled
abbrev pub IsNotPrepared : Said → Refused → Type 0
IsNotPrepared s why = IsCause (the_script s) why ⊎ OfWorkflow s (λ w. IsCause (the_workflow (schema_of w)) why)
