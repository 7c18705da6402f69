use Rattle.std.proofs.Common.{rules, sym}
use Rattle.flow_turn.proofs.RuleLemmas.{pass_step}
use Rattle.flow_turn.proofs.TurnLemmas.{known_by}
use Rattle.flow_turn.proofs.turn.pass_on.Goals as goal

pub fetch_add-requires : goal.fetch_add-requires
fetch_add-requires g c = let turn = c.requires.turn in
    (search rules, search rules, pass_step g.T.Kept.entries g.T.Kept.caller g.T.Kept.fixed _ _ _ _ turn.1.0 turn.0 turn.1.1 (sym turn.1.2) turn.1.3)

pub returns-clause-known : goal.returns-clause-known
returns-clause-known g c = let passed = c.fetch_add.ensures in λ i. known_by (passed.0 i) (passed.2 i).0
