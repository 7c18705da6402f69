use Rattle.std.proofs.Common.{rules}
use Rattle.flow_turn.proofs.RuleLemmas.{looks}
use Rattle.flow_turn.proofs.turn.is_served.Goals as goal

pub load-requires : goal.load-requires
load-requires g c = (search rules, search rules, looks g.T.Kept.entries g.T.Kept.caller g.T.Kept.fixed _ _ _ _ c.requires.waits.0)
