use Rattle.std.proofs.Common.{ap, sym, ◌∙◌}
use Rattle.std.proofs.lemmas.List.{take_all}
use Rattle.flow_workflow.specs.Rule.{rule_of, rules_of}
use Rattle.flow_workflow.proofs.RuleViews.{and_copied, made_more, not_copied, or_copied, order_copied}
use Rattle.flow_workflow.proofs.rule.Rule.+copying.Goals as goal

pub copy-returns-in-Must : goal.copy-returns-in-Must
copy-returns-in-Must t c = sym (ap rule_of c.in-Must.is)

pub copy-returns-in-Never : goal.copy-returns-in-Never
copy-returns-in-Never t c = sym (ap rule_of c.in-Never.is)

pub copy-returns-in_ok-from_slice-in-Order : goal.copy-returns-in_ok-from_slice-in-Order
copy-returns-in_ok-from_slice-in-Order t c =
    order_copied c.args.self.now c.in-Order.events c.in_ok-from_slice-in-Order.field-0 c.in-Order.is (c.in_ok-from_slice-in-Order.ensures.items ∙ c.deref.ensures.value)

pub copy-returns-in_ok-new-in-Not : goal.copy-returns-in_ok-new-in-Not
copy-returns-in_ok-new-in-Not t c =
    not_copied c.args.self.now c.in-Not.part c.in_ok-new-in-Not.field-0 c.in-Not.is
    (ap rule_of c.in_ok-new-in-Not.ensures.ok ∙ c.in_ok-copy-in-Not.ensures ∙ ap rule_of c.deref-in-Not.ensures)

pub copy-returns-in_ok-copy_each-in-And : goal.copy-returns-in_ok-copy_each-in-And
copy-returns-in_ok-copy_each-in-And t c =
    and_copied c.args.self.now c.in-And.parts c.in_ok-copy_each-in-And.field-0 c.in-And.is (c.in_ok-copy_each-in-And.ensures ∙ ap rules_of c.deref-in-And.ensures.value)

pub copy-returns-in_ok-copy_each-in-Or : goal.copy-returns-in_ok-copy_each-in-Or
copy-returns-in_ok-copy_each-in-Or t c =
    or_copied c.args.self.now c.in-Or.parts c.in_ok-copy_each-in-Or.field-0 c.in-Or.is (c.in_ok-copy_each-in-Or.ensures ∙ ap rules_of c.deref-in-Or.ensures.value)

pub copy_each-loop-rule-preserved : goal.copy_each-loop-rule-preserved
copy_each-loop-rule-preserved t c =
    made_more rule_of rule_of c.loop-rule.copies.items c.push.new.self.items c.in_ok-copy.field-0 c.args.rules.now c.loop-rule.rule-index c.rule-item.result
    c.loop-rule-test.true c.rule-item.is c.in_ok-push.ensures.items c.in_ok-copy.ensures c.loop-rule.invariant

pub copy_each-returns : goal.copy_each-returns
copy_each-returns t c = c.loop-rule.invariant ∙ ap rules_of (take_all c.loop-rule.rule-index c.args.rules.now c.loop-rule-test.false)
