use Rattle.std.proofs.Common.{refl, map}
use Rattle.flow_form.specs.RuleForm.{rule_shape_of}
use Rattle.flow_text.specs.Printed.{constraint_line, constraint_lines}
use Rattle.flow_text.proofs.Pushed.{goes_on, all_put}
use Rattle.flow_text.proofs.print_scripts.push_constraints.Goals as goal

pub loop-rule-preserved : goal.loop-rule-preserved
loop-rule-preserved c =
    goes_on (λ rs. constraint_lines (map rule_shape_of rs)) _ c.loop-rule.rule-index c.rule-item.result c.loop-rule.text.items c.push_constraint.new.text.items
    (constraint_line (rule_shape_of c.rule-item.result)) _
    c.loop-rule-test.true c.rule-item.is (λ rs. refl) c.in_ok-push_constraint.ensures c.loop-rule.invariant

pub returns : goal.returns
returns c = all_put (λ rs. constraint_lines (map rule_shape_of rs)) _ c.loop-rule.rule-index _ c.loop-rule.text.items refl c.loop-rule-test.false c.loop-rule.invariant
