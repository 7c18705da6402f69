use Rattle.std.proofs.Common.{List, OnOk, inl, inr, ap, ◌∙◌, subst}
use Rattle.std.specs.List.{flat_map}
use Rattle.flow_workflow.specs.declared.rule.Rule.{Rule}
use Rattle.flow_workflow.specs.Rule.{rules_of}
use Rattle.flow_view.specs.Arrows.{arrows_between, ordered}
use Rattle.flow_view.specs.Told.{Adds}
use Rattle.flow_view.proofs.ToldLemmas.{ordered_and, ordered_or, rule_more}
use Rattle.flow_view.proofs.arrows.Arrows.+telling.Goals as goal

pub put_each_rule-loop-rule-preserved : goal.put_each_rule-loop-rule-preserved
put_each_rule-loop-rule-preserved t c =
    rule_more (arrows_between c.args.tree.now.labels c.args.number) c.args.rules.now c.loop-rule.rule-index c.rule-item.result c.args.self.now c.loop-rule.self c.put_rule.new.self
    c.loop-rule-test.true c.rule-item.is c.loop-rule.invariant c.in_ok-put_rule.ensures

pub put_rule-returns-in-And : goal.put_rule-returns-in-And
put_rule-returns-in-And t c =
    let parts = ap (λ (rules : List Rule). flat_map ordered (rules_of rules)) c.deref-in-And.ensures.value in
    elim c.in-And.is [
      | inl e ↦ subst (λ pairs. OnOk c.put_each_rule.result (Adds (flat_map (arrows_between c.args.tree.now.labels c.args.number) pairs) c.args.self.now c.put_each_rule.new.self)) (parts ∙ ordered_and c.args.rule.now c.in-And.parts e) c.put_each_rule.ensures
      | inr e ↦ subst (λ pairs. OnOk c.put_each_rule.result (Adds (flat_map (arrows_between c.args.tree.now.labels c.args.number) pairs) c.args.self.now c.put_each_rule.new.self)) (parts ∙ ordered_or c.args.rule.now c.in-And.parts e) c.put_each_rule.ensures
    ]
