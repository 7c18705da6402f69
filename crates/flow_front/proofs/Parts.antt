-- What the compiler tells of the parts of a workflow is of the workflow.
use Rattle.std.proofs.Common.{◌≡◌, List}
use Rattle.flow_model.specs.Constraint.{Constraint}
use Rattle.flow_goal.specs.Labelled.{Labelled}
use Rattle.flow_workflow.specs.Definition.{Definition, schema_of}
use Rattle.flow_excise.specs.Options.{schema_with}
use Rattle.flow_excise.specs.declared.refusal.CompileRefusal.{CompileRefusal}
use Rattle.flow_excise.specs.declared.refusal.CompileRefusal.TheVariants.{Inconsistent}
use Rattle.flow_excise.specs.Compilation.{IsRefused}
use Rattle.flow_plan.specs.Compilation.{Compilation, IsCompiled}
use Rattle.flow_excise.proofs.Workflows.{within, compiled, of_parts}

-- the tree and the rules that the code gives to the compiler
module _ (w : Definition) (t : Labelled) (rules : List Constraint) (same_tree : t ≡ w.tree) (same_rules : rules ≡ w.rules) where
  refused_whole : (r : CompileRefusal) → IsRefused (schema_with w.tree w.rules) r → IsRefused (schema_of w) r
  refused_whole (Inconsistent dropped) h = (within w h.0, h.1)
  refused_whole r h = h

  -- what is refused of the parts is refused of the workflow
  pub refused_of_parts : (r : CompileRefusal) → IsRefused (schema_with t rules) r → IsRefused (schema_of w) r
  refused_of_parts r h = refused_whole r (of_parts (λ u rs. IsRefused (schema_with u rs) r) w t rules same_tree same_rules h)

  -- what is compiled of the parts is compiled of the workflow
  pub compiled_of_parts : (c : Compilation) → IsCompiled (schema_with t rules) c → IsCompiled (schema_of w) c
  compiled_of_parts c h = compiled w c (of_parts (λ u rs. IsCompiled (schema_with u rs) c) w t rules same_tree same_rules h)
