use Rattle.std.proofs.Common.{arith}
use Rattle.flow_gen.proofs.Steps.{all_kinds, kinds_step, choices_in_le}
use Rattle.flow_gen.proofs.kind.kinds_of.Goals as goal

pub loop-draw-preserved : goal.loop-draw-preserved
loop-draw-preserved c = (
  omega (arith, c.choices_after-choices.ensures, choices_in_le c.kind_of-kind.result, c.loop-draw.invariant.0),
  kinds_step _ _ _ _ _ _ _ _ c.loop-draw-test.true c.kind_of-kind.ensures c.choices_after-choices.ensures c.in_ok-push.ensures.items c.loop-draw.invariant.1,
)

pub returns : goal.returns
returns c = all_kinds c.loop-draw.choices c.loop-draw.draw-index _ _ _ c.loop-draw-test.false c.loop-draw.invariant.1
