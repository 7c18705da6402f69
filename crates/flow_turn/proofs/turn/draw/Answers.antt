use Rattle.std.proofs.Common.{rules}
use Rattle.flow_turn.proofs.RuleLemmas.{draws}
use Rattle.flow_turn.proofs.turn.draw.Goals as goal

pub fetch_add-requires : goal.fetch_add-requires
fetch_add-requires g c = (search rules, search rules, draws g.T.Kept.entries g.T.Kept.caller g.T.Kept.fixed _ _ _ _ c.requires.rest.0)
