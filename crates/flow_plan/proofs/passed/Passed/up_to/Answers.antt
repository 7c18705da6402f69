use Rattle.std.proofs.Common.{arith}
use Rattle.flow_plan.proofs.passed.Passed.up_to.Goals as goal

pub returns : goal.returns
returns g c = λ within are. (
  c.loop-place.invariant.passed (c.not_past-passed.ensures.passed g.row.W c.args.leaves.now c.args.sides.now c.args.asked.now are),
  omega (arith, c.loop-place.invariant.at, c.loop-place.invariant.before, c.loop-place-test.false, c.min-place-end.ensures, within),
)
