use Rattle.std.proofs.Common.{◌≡◌, length, map, take}
use Rattle.flow_form.specs.RuleForm.{rule_shape_of, rule_shapes}
use Rattle.flow_form.specs.Names.{names_in_rules}
use Rattle.flow_expand.specs.Expansion.{capped}
use Rattle.flow_expand.proofs.rule_names.+counting.Given as goal

abbrev pub invariant-count_names-loop-rule : goal.invariant-count_names-loop-rule
invariant-count_names-loop-rule l = l.count ≡ capped (length (names_in_rules (rule_shapes (map rule_shape_of (take l.rule-index l.rules)))))
