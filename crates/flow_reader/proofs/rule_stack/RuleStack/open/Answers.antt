use Rattle.std.proofs.Common.{◌∷◌, ap, ◌∙◌}
use Rattle.flow_grammar.specs.Machine as machine
use Rattle.flow_reader.specs.RuleLevels.{rule_level_of, rule_frame_of, rule_frames_of}
use Rattle.flow_reader.proofs.Heights.{last_first, height_pushed}
use Rattle.flow_reader.proofs.rule_stack.RuleStack.open.Goals as goal

pub returns-clause-frames : goal.returns-clause-frames
returns-clause-frames c =
    last_first rule_frame_of c.args.self.now.frames.items c.push.new.self.items _ c.in_ok-push.ensures.items
    ∙ ap (λ level. machine.rule_parenthesis (rule_level_of level) c.args.nots ∷ rule_frames_of c.args.self.now.frames.items) c.replace-level.ensures.value

pub returns-clause-level : goal.returns-clause-level
returns-clause-level c = ap rule_level_of c.replace-level.ensures.after ∙ c.new.ensures

pub invariant_of-self-2 : goal.invariant_of-self-2
invariant_of-self-2 c = record {
  counted = height_pushed c.args.self.now.frames.items c.push.new.self.items _ c.args.self.now.height c.in_ok-push.ensures.items c.args.self.now.counted;
}
