use Rattle.std.proofs.Common.{rules, arith, ap, ◌∙◌}
use Rattle.flow_turn.specs.Passes.{split_pass}
use Rattle.flow_turn.proofs.PassLemmas.{splits, split_knows}
use Rattle.flow_turn.proofs.lock.TurnLock.split.Goals as goal

pub split_seat-seat-requires : goal.split_seat-seat-requires
split_seat-seat-requires g c = (
  search rules,
  search rules,
  splits g.T.Kept.entries g.T.Kept.caller g.T.Kept.fixed _ _ _ c.root.invariant.0.0 (ap (λ k. k.number) c.root.view_is ∙ c.requires.root)
      (let room = c.requires.room in let given = ap (λ k. k.given) c.root.view_is in omega arith),
)

pub returns-clause-pass : goal.returns-clause-pass
returns-clause-pass g c = split_knows c.root.inside.seat c.split_seat-seat.result c.split_seat-seat.ensures.3 c.split_seat-seat.ensures.4 ∙ ap split_pass c.root.view_is
