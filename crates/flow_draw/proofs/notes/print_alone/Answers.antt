use Rattle.std.proofs.Common.{rules, ◌≡◌, ◌∙◌, refl, ap, [], ◌∷◌, ◌++◌, codes, map}
use Rattle.std.proofs.lemmas.Result.{IfOk-weaker}
use Rattle.flow_form.proofs.Shapes.{shape_of-Nop}
use Rattle.flow_form.specs.RuleForm.{rule_shape_of}
use Rattle.flow_form.specs.Script.{declared}
use Rattle.flow_text.specs.Printed.{declaration_lines, goal_line, constraint_lines}
use Rattle.flow_draw.proofs.NoteLemmas.{alone}
use Rattle.flow_draw.proofs.notes.print_alone.Goals as goal

pub returns : goal.returns
returns c =
    let none : c.new.result.items ≡ [] = search rules in
    let one : c.push.new.self.items ≡ c.args.rule ∷ [] = search rules in
    IfOk-weaker c.print-text.result _ _
    (λ t e. e
    ∙ (λ i. declaration_lines (map declared (none i)) ++ goal_line (shape_of-Nop _ refl i) ++ constraint_lines (map rule_shape_of (one i)))
    ∙ ap (λ line. codes "goal nop;\n" ++ line) (alone (rule_shape_of c.args.rule)))
    c.print-text.ensures
