use Rattle.std.proofs.Common.{◌≡◌, ◌++◌, drop, map}
use Rattle.flow_form.specs.RuleForm.{rule_shape_of, rule_shapes}
use Rattle.flow_text.specs.Joins.{word_of, parted_rule}
use Rattle.flow_text.specs.Printed.{more_rules}
use Rattle.flow_text.proofs.print_rules.+rules.Given as goal

abbrev pub invariant-push_list-loop-member : goal.invariant-push_list-loop-member
invariant-push_list-loop-member l =
    l.text.items ++ more_rules (word_of l.connective) (parted_rule l.connective) (rule_shapes (map rule_shape_of (drop l.member-index l.rest)))
    ≡ l.initial.text.items ++ more_rules (word_of l.connective) (parted_rule l.connective) (rule_shapes (map rule_shape_of l.rest))
