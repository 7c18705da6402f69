use Rattle.std.proofs.Common.{codes, refl}
use Rattle.flow_form.specs.Form.{shape_of}
use Rattle.flow_text.specs.Printed.{goal_text}
use Rattle.flow_text.proofs.Pushed.{put_around}
use Rattle.flow_text.proofs.print_scripts.push_goal_line.Goals as goal

pub returns : goal.returns
returns c =
    put_around c.extend_from_slice-2.result _ _ _ _ (codes "goal ") (goal_text (shape_of c.args.goal.now)) (codes ";\n") _ refl
    c.in_ok-extend_from_slice.ensures.items c.in_ok-push_goal.ensures c.extend_from_slice-2.ensures.items
