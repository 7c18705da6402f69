use Rattle.std.proofs.Common.{◌≡◌, ◌∙◌, ap}
use Rattle.flow_workflow.specs.Definition.{Definition}
use Rattle.flow_workflow.specs.Rule.{rules_of}
use Rattle.flow_plan.specs.Compilation.{IsWithinLimits}
use Rattle.flow_excise.specs.Options.{schema_with}
use Rattle.flow_core.specs.Run.{schema}
use Rattle.flow_reason.proofs.CompiledLemmas.{compiled_whole, refused_parts, within_parts, none_as}
use Rattle.flow_reason.proofs.GivenUpLemmas.{consistent}
use Rattle.flow_reason.proofs.compiled.compiled_again.Goals as goal

pub returns-in-Ok-clause-some : goal.returns-in-Ok-clause-some
returns-in-Ok-clause-some c =
    let w : Definition = c.args.core.now.definition in
    let same_tree : c.tree.result.now ≡ w.tree = c.tree.ensures.tree ∙ ap (λ (d : Definition). d.tree) c.workflow-workflow.ensures in
    let same_rules : rules_of c.rules.result.now ≡ w.rules = c.rules.ensures ∙ ap (λ (d : Definition). d.rules) c.workflow-workflow.ensures in
    compiled_whole w c.tree.result.now (rules_of c.rules.result.now) same_tree same_rules c.in-Ok.compiled c.in-Ok.ensures.ok

pub returns-in-Err-clause-none : goal.returns-in-Err-clause-none
returns-in-Err-clause-none c =
    let r = c.args.core.now in
    let w : Definition = r.definition in
    let same_tree : c.tree.result.now ≡ w.tree = c.tree.ensures.tree ∙ ap (λ (d : Definition). d.tree) c.workflow-workflow.ensures in
    let same_rules : rules_of c.rules.result.now ≡ w.rules = c.rules.ensures ∙ ap (λ (d : Definition). d.rules) c.workflow-workflow.ensures in
    let refused = refused_parts w c.tree.result.now (rules_of c.rules.result.now) same_tree same_rules c.in-Err.refusal c.in-Err.ensures.refused in
    none_as c.past_limits.result (¬ (IsWithinLimits (schema_with w.tree w.rules))) (¬ (IsWithinLimits (schema r)))
    (c.past_limits.ensures.past (schema_with w.tree w.rules) (consistent r c.history.ensures.lawful) refused) (λ none within. none (within_parts w within))
