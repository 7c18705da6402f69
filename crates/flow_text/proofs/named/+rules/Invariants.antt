use Rattle.std.proofs.Common.{◌≡◌, ◌++◌, drop, map}
use Rattle.flow_form.specs.RuleForm.{rule_shape_of, rule_shapes}
use Rattle.flow_form.specs.Names.{names_in_rules}
use Rattle.flow_grammar.specs.Roles.{in_rule}
use Rattle.flow_text.specs.Named.{roles_of}
use Rattle.flow_text.proofs.named.+rules.Given as goal

abbrev pub invariant-list_rules-loop-rule : goal.invariant-list_rules-loop-rule
invariant-list_rules-loop-rule l = roles_of l.list.items ++ map in_rule (names_in_rules (rule_shapes (map rule_shape_of (drop l.rule-index l.rules)))) ≡ roles_of l.initial.list.items ++ map in_rule (names_in_rules (rule_shapes (map rule_shape_of l.rules)))
