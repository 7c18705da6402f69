use Rattle.flow_rules.proofs.NarrowLemmas.{ways_of_left}
use Rattle.flow_rules.proofs.narrowed.narrow_each.Goals as goal

pub returns : goal.returns
returns c =
    ways_of_left c.in_ok-standings.standings.unmet c.args.lanes.now c.in_ok-left.left.items c.args.rules.now c.in_ok-standings.ensures.unmet c.in_ok-left.ensures
