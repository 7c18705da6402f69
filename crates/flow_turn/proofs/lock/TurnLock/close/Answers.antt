use Rattle.std.proofs.Common.{rules}
use Rattle.flow_turn.proofs.PassLemmas.{closes_with, closes_as}
use Rattle.flow_turn.proofs.lock.TurnLock.close.Goals as goal

pub unwrap-value-requires : goal.unwrap-value-requires
unwrap-value-requires g c =
    let end = closes_with g.T.Kept.entries g.T.Kept.caller g.T.Kept.fixed _ c.into_seat.result c.args.root _ _ c.take.result c.into_seat.ensures.rest c.into_seat.ensures.known c.requires.root.0 c.requires.root.1
    c.close_with-closed.ensures.values.2 c.take.ensures.value in
    let is = end.1 in search rules

pub returns : goal.returns
returns g c =
    let end = closes_as g.T.Kept.entries g.T.Kept.caller g.T.Kept.fixed _ c.into_seat.result c.args.root _ _ c.take.result c.into_seat.ensures.rest c.into_seat.ensures.known c.requires.root.0 c.requires.root.1
    c.close_with-closed.ensures.values.2 c.take.ensures.value c.unwrap-value.result c.unwrap-value.ensures in
    record { found = end.0; callers = end.1 }
