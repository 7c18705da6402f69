use Rattle.std.proofs.Common.{map, [], ◌∷◌, ◌++◌, ap, ◌∙◌}
use Rattle.std.proofs.lemmas.List.{map-append}
use Rattle.flow_form.specs.RuleForm.{rule_shape_of}
use Rattle.flow_grammar.specs.Machine as machine
use Rattle.flow_reader.proofs.rule_levels.RuleLevel.push.Goals as goal

pub returns : goal.returns
returns c =
    ap (machine.rule_level (map rule_shape_of c.args.self.now.anys.items))
    (ap (map rule_shape_of) c.in_ok-push.ensures.items ∙ map-append rule_shape_of _ _
    ∙ ap (λ r. map rule_shape_of c.args.self.now.alls.items ++ r ∷ []) c.in_ok-negated.ensures)
