use Rattle.std.proofs.Common.{codes, refl}
use Rattle.flow_form.specs.RuleForm.{rule_shape_of}
use Rattle.flow_text.specs.Printed.{constraint_line, rule_text}
use Rattle.flow_text.proofs.Pushed.{put_around}
use Rattle.flow_text.proofs.print_scripts.push_constraint.Goals as goal

pub returns : goal.returns
unfolding constraint_line
returns c =
    put_around c.extend_from_slice-2.result _ _ _ _ (codes "constraint ") (rule_text (rule_shape_of c.args.rule.now)) (codes ";\n") _ refl
    c.in_ok-extend_from_slice.ensures.items c.in_ok-push_rule.ensures c.extend_from_slice-2.ensures.items
