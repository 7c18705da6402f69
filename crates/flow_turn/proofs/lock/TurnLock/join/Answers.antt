use Rattle.std.proofs.Common.{rules, ap, ◌∙◌}
use Rattle.flow_turn.proofs.PassLemmas.{joins}
use Rattle.flow_turn.proofs.RuleLemmas.{settle_step}
use Rattle.flow_turn.proofs.lock.TurnLock.join.Goals as goal

pub join_seat-requires : goal.join_seat-requires
join_seat-requires g c = (
  search rules,
  search rules,
  search rules,
  search rules,
  joins g.T.Kept.entries g.T.Kept.caller g.T.Kept.fixed _ _ _ _ _ c.root.invariant.0.0 (ap (λ k. k.number) c.root.view_is ∙ c.requires.root) c.into_seat.ensures.rest.0,
)

pub load-root-inside-requires : goal.load-root-inside-requires
load-root-inside-requires g c = (
  search rules,
  search rules,
  settle_step g.T.Kept.entries g.T.Kept.caller g.T.Kept.fixed _ _ _ _ (ap (λ m. m.0.stage) c.join_seat.ensures.2 ∙ c.root.invariant.0.0),
)
