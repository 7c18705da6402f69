-- What the compiler tells of a tree and rules, it tells of the workflow that has them.
use Rattle.std.proofs.Common.{◌≡◌, List, subst}
use Rattle.flow_model.specs.Constraint.{Constraint}
use Rattle.flow_goal.specs.Labelled.{Labelled}
use Rattle.flow_workflow.specs.Definition.{Definition, schema_of}
use Rattle.flow_excise.specs.Options.{schema_with}
use Rattle.flow_plan.specs.Compilation.{Compilation, IsWithinLimits, IsCompiled}

pub within : (w : Definition) → IsWithinLimits (schema_with w.tree w.rules) → IsWithinLimits (schema_of w)
within w h = record { resolutions = h.resolutions; options_few = h.options_few; light = h.light }

pub compiled : (w : Definition) (c : Compilation) → IsCompiled (schema_with w.tree w.rules) c → IsCompiled (schema_of w) c
compiled w c h = record {
  within = within w h.within;
  consistent = h.consistent;
  plans = h.plans;
  resolutions = h.resolutions;
  options_counted = h.options_counted;
  bulk_counted = h.bulk_counted;
}

-- what is told of the tree and the rules that the code gives to the compiler, is told of those of the workflow
pub of_parts : (P : Labelled → List Constraint → Type 0) (w : Definition) (t : Labelled) (rules : List Constraint) →
    t ≡ w.tree → rules ≡ w.rules → P t rules → P w.tree w.rules
of_parts P w t rules same_tree same_rules p = subst (λ rs. P w.tree rs) same_rules (subst (λ u. P u rules) same_tree p)
