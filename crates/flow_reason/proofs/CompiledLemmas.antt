-- What is compiled of the parts of a workflow is compiled of the workflow, and what is refused is past its limits.
use Rattle.std.proofs.Common.{◌≡◌, List, Option, None, Some, Result, Ok, Err, IfOk, IfNone}
use Rattle.flow_model.specs.Constraint.{Constraint}
use Rattle.flow_goal.specs.Labelled.{Labelled}
use Rattle.flow_workflow.specs.Definition.{Definition, schema_of}
use Rattle.flow_plan.specs.Compilation.{Compilation, IsCompiled, IsWithinLimits}
use Rattle.flow_excise.specs.Options.{schema_with}
use Rattle.flow_excise.specs.declared.refusal.CompileRefusal.{CompileRefusal}
use Rattle.flow_excise.specs.Compilation.{IsRefused}
use Rattle.flow_excise.proofs.Workflows.{compiled, of_parts}

module _ (w : Definition) (t : Labelled) (rules : List Constraint) (same_tree : t ≡ w.tree) (same_rules : rules ≡ w.rules) where
  pub compiled_whole : (c : Compilation) → IsCompiled (schema_with t rules) c → IsCompiled (schema_of w) c
  compiled_whole c h = compiled w c (of_parts (λ u rs. IsCompiled (schema_with u rs) c) w t rules same_tree same_rules h)

  pub refused_parts : (r : CompileRefusal) → IsRefused (schema_with t rules) r → IsRefused (schema_with w.tree w.rules) r
  refused_parts r h = of_parts (λ u rs. IsRefused (schema_with u rs) r) w t rules same_tree same_rules h

pub within_parts : (w : Definition) → IsWithinLimits (schema_of w) → IsWithinLimits (schema_with w.tree w.rules)
within_parts w h = record { resolutions = h.resolutions; options_few = h.options_few; light = h.light }

-- ---- what is found, and nothing

pub none_as : {A E : Type 0} (result : Result (Option A) E) (P Q : Type 0) → IfOk result (λ _. P) → (P → Q) → IfOk result (λ found. IfNone found Q)
none_as (Ok None) P Q p to = to p
none_as (Ok (Some x)) P Q p to = tt
none_as (Err e) P Q p to = tt

pub none_where : {A E : Type 0} (result : Result (Option A) E) (P Q : Type 0) → IfOk result (λ found. IfNone found P) → (P → Q) → IfOk result (λ found. IfNone found Q)
none_where (Ok None) P Q p to = to p
none_where (Ok (Some x)) P Q p to = tt
none_where (Err e) P Q p to = tt
