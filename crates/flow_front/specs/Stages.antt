-- One thing after another, each of which may be refused.
use Rattle.std.specs.Prelude.{◌≡◌, Result, Ok, Err, ◌⊎◌}
use Rattle.flow_form.specs.Script.{Said}
use Rattle.flow_workflow.specs.Definition.{Definition, schema_of}
use Rattle.flow_expand.specs.Workflows.{IsExpanded}
use Rattle.flow_plan.specs.Compilation.{Compilation, IsCompiled}
use Rattle.flow_findings.specs.declared.refused.Refused.{Refused}
use Rattle.flow_front.specs.declared.stop.Stop.{Stop}
use Rattle.flow_front.specs.declared.stop.Stop.TheVariants as stop
use Rattle.flow_front.specs.Refusal.{Looked, the_script, the_workflow, IsCause}

-- what is looked at is refused for its first cause, or else something that Has is made of it, and P says what comes of that
abbrev pub Then : {F A : Type 0} → Looked → (A → Type 0) → (A → Result F Refused → Type 0) → Result F Refused → Type 0
Then {F} {A} looked Has P came = ((why : Refused) × IsCause looked why × (came ≡ Err why)) ⊎ ((a : A) × Has a × P a came)

-- what is said is expanded and then compiled, and P says what comes of the workflow and its plans
abbrev pub Prepares : {F : Type 0} → Said → (Definition → Compilation → Result F Refused → Type 0) → Result F Refused → Type 0
Prepares s P came = Then (the_script s) (IsExpanded s) (λ w. Then (the_workflow (schema_of w)) (IsCompiled (schema_of w)) (P w)) came

-- what a call gives is of something that may be found, and what it refuses may be refused; of want of memory nothing is said
abbrev pub Comes : {F A : Type 0} → (A → F → Type 0) → (Result F Refused → Type 0) → Result A Stop → Type 0
Comes {F} IsOf P (Ok a) = (f : F) × P (Ok f) × IsOf a f
Comes IsOf P (Err (stop.Refused why)) = P (Err why)
Comes IsOf P (Err stop.NoMemory) = Unit {0}
