use Rattle.std.proofs.Common.{arith}
use Rattle.flow_rules.proofs.StandingLemmas.{stand_event}
use Rattle.flow_rules.proofs.standing.event.Goals as goal

pub returns : goal.returns
returns c =
    stand_event c.args.lanes.now c.args.wanted c.args.event c.lanes_of-here.result c.of.result c.lanes_of-here.ensures (omega (arith, c.lanes_of-here.type_inv))
    c.of.ensures.free c.of.ensures.unmet
