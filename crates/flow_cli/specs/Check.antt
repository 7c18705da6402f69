-- What `check` finds.
use Rattle.std.specs.Prelude.{◌≡◌, length, Result, Ok}
use Rattle.flow_form.specs.Script.{Said}
use Rattle.flow_workflow.specs.Definition.{Definition, schema_of}
use Rattle.flow_expand.specs.Workflows.{IsExpanded}
use Rattle.flow_plan.specs.Compilation.{Compilation, IsCompiled}
use Rattle.flow_findings.specs.declared.refused.Refused.{Refused}
use Rattle.flow_front.specs.Refusal.{the_script, the_workflow}
use Rattle.flow_front.specs.Stages.{Then}
use Rattle.flow_cli.specs.Finding.{Finding, consistent}

-- some execution meets every constraint, and the counts are those of the options
abbrev pub FindsConsistent : Definition → Compilation → Result Finding Refused → Type 0
FindsConsistent w c came = (c.counts.live ≡ length c.plans) × (came ≡ Ok (consistent w c.counts))

abbrev pub ChecksWorkflow : Definition → Result Finding Refused → Type 0
ChecksWorkflow w came = Then (the_workflow (schema_of w)) (IsCompiled (schema_of w)) (FindsConsistent w) came

abbrev pub Checks : Said → Result Finding Refused → Type 0
Checks s came = Then (the_script s) (IsExpanded s) ChecksWorkflow came
