use Rattle.std.proofs.Common.{List, map, OnOk, inl, inr, ap, ◌∙◌, subst}
use Rattle.flow_model.specs.Folding.{named_events}
use Rattle.flow_model.specs.Lists.{joined}
use Rattle.flow_workflow.specs.declared.rule.Rule.{Rule}
use Rattle.flow_workflow.specs.NamedEvents.{Notes}
use Rattle.flow_workflow.specs.Rule.{rules_of}
use Rattle.flow_workflow.proofs.NamedLemmas.{named_in_and, named_in_or, rule_noted}
use Rattle.flow_workflow.proofs.named_events.+noting.Goals as goal

pub note_each-loop-rule-preserved : goal.note_each-loop-rule-preserved
note_each-loop-rule-preserved t c =
    rule_noted c.args.rules.now c.loop-rule.rule-index c.rule-item.result c.args.named.now c.loop-rule.named c.note_rule.new.named c.loop-rule-test.true c.rule-item.is
    c.loop-rule.invariant c.in_ok-note_rule.ensures

pub note_rule-returns-in-And : goal.note_rule-returns-in-And
note_rule-returns-in-And t c =
    let parts = ap (λ (rules : List Rule). joined (map named_events (rules_of rules))) c.deref-in-And.ensures.value in
    elim c.in-And.is [
      | inl e ↦ subst (λ events. OnOk c.note_each.result (Notes events c.args.named.now c.note_each.new.named)) (parts ∙ named_in_and c.args.rule.now c.in-And.parts e) c.note_each.ensures
      | inr e ↦ subst (λ events. OnOk c.note_each.result (Notes events c.args.named.now c.note_each.new.named)) (parts ∙ named_in_or c.args.rule.now c.in-And.parts e) c.note_each.ensures
    ]
