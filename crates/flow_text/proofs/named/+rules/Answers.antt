use Rattle.std.proofs.Common.{map, refl}
use Rattle.std.proofs.lemmas.List.{map-append}
use Rattle.flow_form.specs.RuleForm.{rule_shape_of, rule_shapes}
use Rattle.flow_form.specs.Names.{names_in_rule, names_in_rules}
use Rattle.flow_grammar.specs.Roles.{in_rule}
use Rattle.flow_text.specs.Named.{roles_of}
use Rattle.flow_text.proofs.Pushed.{goes_on, all_put}
use Rattle.flow_text.proofs.named.+rules.Goals as goal

pub list_rules-loop-rule-preserved : goal.list_rules-loop-rule-preserved
list_rules-loop-rule-preserved t c =
    goes_on (λ rs. map in_rule (names_in_rules (rule_shapes (map rule_shape_of rs)))) _ c.loop-rule.rule-index c.rule-item.result
    (roles_of c.loop-rule.list.items) (roles_of c.list_rule.new.list.items) (map in_rule (names_in_rule (rule_shape_of c.rule-item.result))) _
    c.loop-rule-test.true c.rule-item.is (λ rs. map-append _ _ _) c.in_ok-list_rule.ensures c.loop-rule.invariant

pub list_rules-returns : goal.list_rules-returns
list_rules-returns t c =
    all_put (λ rs. map in_rule (names_in_rules (rule_shapes (map rule_shape_of rs)))) _ c.loop-rule.rule-index _ (roles_of c.loop-rule.list.items) refl c.loop-rule-test.false c.loop-rule.invariant
