use Rattle.std.proofs.Common.{arith}
use Rattle.flow_rules.proofs.StandingLemmas.{stand_order}
use Rattle.flow_rules.proofs.standing.order.Goals as goal

pub returns : goal.returns
returns c =
    stand_order c.args.lanes.now c.args.wanted c.args.first c.args.second c.lanes_of_both.result c.of.result c.lanes_of_both.ensures
    (omega (arith, c.lanes_of_both.type_inv)) c.of.ensures.free c.of.ensures.unmet
