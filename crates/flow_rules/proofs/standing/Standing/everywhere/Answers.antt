use Rattle.flow_rules.proofs.StandingLemmas.{stand_everywhere}
use Rattle.flow_rules.proofs.standing.Standing.everywhere.Goals as goal

pub returns : goal.returns
returns c = stand_everywhere c.of.result c.args.met c.of.ensures.free c.of.ensures.unmet
