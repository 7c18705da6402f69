use Rattle.std.proofs.Common.{ap, ◌∙◌}
use Rattle.flow_form.specs.RuleForm.{rule_shape_of}
use Rattle.flow_grammar.specs.Machine as machine
use Rattle.flow_reader.specs.RuleLevels.{rule_level_of, rule_frames_of}
use Rattle.flow_reader.proofs.rules.close_parenthesis.Goals as goal

pub returns : goal.returns
returns c =
    rw c.in-Some.ensures.some
    (ap (λ now. machine.reading (machine.after_unit (rule_frames_of c.close.new.self.frames.items) now))
    (c.in_ok-push.ensures
    ∙ ap (λ level. machine.push_rule (rule_level_of level) (machine.negate c.in-Some.frame.nots (rule_shape_of c.in_ok-inside.inside))) c.replace.ensures.after
    ∙ ap (λ inside. machine.push_rule (rule_level_of c.in-Some.frame.level) (machine.negate c.in-Some.frame.nots inside))
    (c.in_ok-inside.ensures ∙ ap (λ l. machine.close_rule (rule_level_of l)) (c.replace.ensures.value ∙ c.in-Some.ensures.level))))
