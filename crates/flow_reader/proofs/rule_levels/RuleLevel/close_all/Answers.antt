use Rattle.std.proofs.Common.{map, [], ◌∷◌, ◌++◌, ap, ap₂, ◌∙◌}
use Rattle.std.proofs.lemmas.List.{map-append}
use Rattle.flow_form.specs.RuleForm.{rule_shape_of}
use Rattle.flow_grammar.specs.Grammar.{gather, list, rules}
use Rattle.flow_grammar.specs.Machine as machine
use Rattle.flow_reader.proofs.rule_levels.RuleLevel.close_all.Goals as goal

pub returns : goal.returns
returns c =
    ap₂ machine.rule_level
    (ap (map rule_shape_of) c.in_ok-push.ensures.items ∙ map-append rule_shape_of _ _
    ∙ ap (λ r. map rule_shape_of c.args.self.now.anys.items ++ r ∷ [])
    (c.gathered.ensures ∙ ap (λ v. gather (list rules 0) (map rule_shape_of v.items)) c.replace-alls.ensures.value))
    (ap (λ v. map rule_shape_of v.items) c.replace-alls.ensures.after ∙ ap (map rule_shape_of) c.new.ensures.items)
