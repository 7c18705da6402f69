use Rattle.std.proofs.Common.{sym, ◌∙◌}
use Rattle.flow_questions.proofs.TakerLemmas.{taker_here, taker_none, taker_on}
use Rattle.flow_questions.proofs.run.taker_of.Goals as goal

pub loop-one-preserved : goal.loop-one-preserved
loop-one-preserved c = c.loop-one.invariant ∙ taker_on c.args.takers.now c.args.event c.loop-one.one-index (0, 0) c.loop-one-test.true c.if-one-event.false

pub returns-then-one-event : goal.returns-then-one-event
returns-then-one-event c = sym (c.loop-one.invariant ∙ taker_here c.args.takers.now c.args.event c.loop-one.one-index (0, 0) c.loop-one-test.true c.if-one-event.true)

pub returns : goal.returns
returns c = sym (c.loop-one.invariant ∙ taker_none c.args.takers.now c.args.event c.loop-one.one-index c.loop-one-test.false)
