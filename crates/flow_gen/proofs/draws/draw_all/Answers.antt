use Rattle.std.proofs.Common.{arith, refl}
use Rattle.flow_gen.specs.Generated.{draws}
use Rattle.flow_gen.proofs.Steps.{all_left, draws_step}
use Rattle.flow_gen.proofs.draws.draw_all.Goals as goal

pub loop-preserved : goal.loop-preserved
loop-preserved c = (
  c.draw-last.ensures.below,
  draws_step _ _ _ _ _ _ _ c.draw-last.ensures.drawn c.in_ok-push.ensures.items (omega arith) c.loop.invariant.1,
)

pub returns : goal.returns
returns c = all_left (draws c.loop.last) _ _ c.loop.counter _ refl c.loop-test.false c.loop.invariant.1
