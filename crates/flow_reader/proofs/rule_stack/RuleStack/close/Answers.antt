use Rattle.std.proofs.Common.{arith}
use Rattle.flow_reader.specs.RuleLevels.{rule_frame_of}
use Rattle.flow_reader.proofs.Heights.{last_first, height_less, height_popped}
use Rattle.flow_reader.proofs.rule_stack.RuleStack.close.Goals as goal

pub overflow_sub-self : goal.overflow_sub-self
overflow_sub-self c =
    omega (arith, height_less c.args.self.now.frames.items c.pop.new.self.items c.in-Some.frame c.args.self.now.height c.in-Some.ensures.items c.args.self.now.counted)

pub overflow_sub-self-2 : goal.overflow_sub-self-2
overflow_sub-self-2 c =
    omega (arith, height_less c.args.self.now.frames.items c.pop.new.self.items c.in-Some.frame c.args.self.now.height c.in-Some.ensures.items c.args.self.now.counted)

pub invariant_of-self-2 : goal.invariant_of-self-2
invariant_of-self-2 c = record {
  counted = height_popped c.args.self.now.frames.items c.pop.new.self.items c.in-Some.frame c.args.self.now.height c.in-Some.ensures.items c.args.self.now.counted;
}

pub returns-clause-some : goal.returns-clause-some
returns-clause-some c = last_first rule_frame_of c.pop.new.self.items c.args.self.now.frames.items c.in-Some.frame c.in-Some.ensures.items
