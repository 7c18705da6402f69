use Rattle.std.proofs.Common.{◌≡◌, ◌++◌, drop, map}
use Rattle.flow_form.specs.RuleForm.{rule_shape_of}
use Rattle.flow_text.specs.Printed.{constraint_lines}
use Rattle.flow_text.proofs.print_scripts.push_constraints.Given as goal

abbrev pub invariant-loop-rule : goal.invariant-loop-rule
invariant-loop-rule l =
    l.text.items ++ constraint_lines (map rule_shape_of (drop l.rule-index l.rules)) ≡ l.initial.text.items ++ constraint_lines (map rule_shape_of l.rules)
