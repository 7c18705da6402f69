use Rattle.std.proofs.Common.{not, ap, map, List, ◌∙◌}
use Rattle.std.proofs.lemmas.List.{take_all}
use Rattle.std.proofs.lemmas.Result.{IfOk-weaker}
use Rattle.flow_workflow.specs.declared.rule.Rule.{Rule}
use Rattle.flow_rules.specs.Normal.{all_form, normal_of, split_chain, split_form}
use Rattle.flow_rules.specs.NormalForm.{chain_form, form_of, list_form, rule_form}
use Rattle.flow_workflow.specs.Rule.{rule_of}
use Rattle.flow_rules.proofs.RuleViews.{form_and, form_must, form_never, form_not, form_or, form_order}
use Rattle.flow_workflow.proofs.RuleViews.{made_more}
use Rattle.flow_rules.proofs.SplitForms.{split_and, split_must, split_never, split_not, split_or, split_order, split_rules}
use Rattle.flow_rules.proofs.normal_form.+normalizing.Goals as goal

pub normal_forms-loop-rule-preserved : goal.normal_forms-loop-rule-preserved
normal_forms-loop-rule-preserved t c =
    let wanted = c.args.wanted in (
      made_more form_of (λ rule. rule_form rule wanted) c.loop-rule.forms.items c.push.new.self.items c.in_ok-normal.field-0 c.args.rules.now c.loop-rule.rule-index c.rule-item.result
          c.loop-rule-test.true c.rule-item.is c.in_ok-push.ensures.items c.in_ok-normal.ensures.tree c.loop-rule.invariant.0,
      made_more normal_of (λ rule. split_form (rule_of rule) wanted) c.loop-rule.forms.items c.push.new.self.items c.in_ok-normal.field-0 c.args.rules.now c.loop-rule.rule-index c.rule-item.result
          c.loop-rule-test.true c.rule-item.is c.in_ok-push.ensures.items c.in_ok-normal.ensures.normal c.loop-rule.invariant.1,
    )

pub normal-returns-in_ok-normal_forms-in-And-clause-normal : goal.normal-returns-in_ok-normal_forms-in-And-clause-normal
normal-returns-in_ok-normal_forms-in-And-clause-normal t c =
    let wanted = c.args.wanted in
    c.all.ensures.normal
    ∙ ap (all_form wanted) (c.in_ok-normal_forms-in-And.ensures.normal ∙ ap (split_rules wanted) c.deref-in-And.ensures.value)
    ∙ split_and wanted c.args.rule.now c.in-And.rules c.in-And.is

pub normal-returns-in_ok-normal_forms-in-Or-clause-normal : goal.normal-returns-in_ok-normal_forms-in-Or-clause-normal
normal-returns-in_ok-normal_forms-in-Or-clause-normal t c =
    let wanted = c.args.wanted in
    c.all-in-Or.ensures.normal
    ∙ ap (all_form (not wanted)) (c.in_ok-normal_forms-in-Or.ensures.normal ∙ ap (split_rules wanted) c.deref-in-Or.ensures.value)
    ∙ split_or wanted c.args.rule.now c.in-Or.rules c.in-Or.is

pub normal-returns-in_ok-normal_forms-in-And-clause-tree : goal.normal-returns-in_ok-normal_forms-in-And-clause-tree
normal-returns-in_ok-normal_forms-in-And-clause-tree t c =
    let wanted = c.args.wanted in
    c.all.ensures.tree
    ∙ ap (list_form wanted) (c.in_ok-normal_forms-in-And.ensures.tree ∙ ap (λ (rules : List Rule). map (λ r. rule_form r wanted) rules) c.deref-in-And.ensures.value)
    ∙ form_and wanted c.args.rule.now c.in-And.rules c.in-And.is

pub normal-returns-in_ok-normal_forms-in-Or-clause-tree : goal.normal-returns-in_ok-normal_forms-in-Or-clause-tree
normal-returns-in_ok-normal_forms-in-Or-clause-tree t c =
    let wanted = c.args.wanted in
    c.all-in-Or.ensures.tree
    ∙ ap (list_form (not wanted)) (c.in_ok-normal_forms-in-Or.ensures.tree ∙ ap (λ (rules : List Rule). map (λ r. rule_form r wanted) rules) c.deref-in-Or.ensures.value)
    ∙ form_or wanted c.args.rule.now c.in-Or.rules c.in-Or.is

pub normal-returns-in-Must-clause-tree : goal.normal-returns-in-Must-clause-tree
normal-returns-in-Must-clause-tree t c = form_must c.args.wanted c.args.rule.now c.in-Must.event c.in-Must.is

pub normal-returns-in-Must-clause-normal : goal.normal-returns-in-Must-clause-normal
normal-returns-in-Must-clause-normal t c = split_must c.args.wanted c.args.rule.now c.in-Must.event c.in-Must.is

pub normal-returns-in-Never-clause-tree : goal.normal-returns-in-Never-clause-tree
normal-returns-in-Never-clause-tree t c = form_never c.args.wanted c.args.rule.now c.in-Never.event c.in-Never.is

pub normal-returns-in-Never-clause-normal : goal.normal-returns-in-Never-clause-normal
normal-returns-in-Never-clause-normal t c = split_never c.args.wanted c.args.rule.now c.in-Never.event c.in-Never.is

pub normal-returns-in-Order-clause-tree : goal.normal-returns-in-Order-clause-tree
normal-returns-in-Order-clause-tree t c =
    let wanted = c.args.wanted in
    IfOk-weaker c.chain.result _ _ (λ n is. is ∙ ap (chain_form wanted) c.deref.ensures.value ∙ form_order wanted c.args.rule.now c.in-Order.events c.in-Order.is) c.chain.ensures.tree

pub normal-returns-in-Order-clause-normal : goal.normal-returns-in-Order-clause-normal
normal-returns-in-Order-clause-normal t c =
    let wanted = c.args.wanted in
    IfOk-weaker c.chain.result _ _ (λ n is. is ∙ ap (split_chain wanted) c.deref.ensures.value ∙ split_order wanted c.args.rule.now c.in-Order.events c.in-Order.is) c.chain.ensures.normal

pub normal-returns-in-Not-clause-tree : goal.normal-returns-in-Not-clause-tree
normal-returns-in-Not-clause-tree t c =
    let wanted = c.args.wanted in
    IfOk-weaker c.normal.result _ _ (λ n is. is ∙ ap (λ (r : Rule). rule_form r (not wanted)) c.deref-in-Not.ensures ∙ form_not wanted c.args.rule.now c.in-Not.part c.in-Not.is) c.normal.ensures.tree

pub normal-returns-in-Not-clause-normal : goal.normal-returns-in-Not-clause-normal
normal-returns-in-Not-clause-normal t c =
    let wanted = c.args.wanted in
    IfOk-weaker c.normal.result _ _ (λ n is. is ∙ ap (λ (r : Rule). split_form (rule_of r) (not wanted)) c.deref-in-Not.ensures ∙ split_not wanted c.args.rule.now c.in-Not.part c.in-Not.is) c.normal.ensures.normal

pub normal_forms-returns-clause-tree : goal.normal_forms-returns-clause-tree
normal_forms-returns-clause-tree t c =
    c.loop-rule.invariant.0 ∙ ap (λ (rules : List Rule). map (λ r. rule_form r c.args.wanted) rules) (take_all c.loop-rule.rule-index c.args.rules.now c.loop-rule-test.false)

pub normal_forms-returns-clause-normal : goal.normal_forms-returns-clause-normal
normal_forms-returns-clause-normal t c = c.loop-rule.invariant.1 ∙ ap (split_rules c.args.wanted) (take_all c.loop-rule.rule-index c.args.rules.now c.loop-rule-test.false)
