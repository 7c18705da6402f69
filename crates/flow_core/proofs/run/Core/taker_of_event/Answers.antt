use Rattle.std.proofs.Common.{refl, sym, true≢false}
use Rattle.flow_core.proofs.HoldingLemmas.{none_given, taker_is, nobody_has}
use Rattle.flow_core.proofs.run.Core.taker_of_event.Goals as goal

pub returns-in_err-given : goal.returns-in_err-given
returns-in_err-given c = rw c.from_residual.ensures (rw (← c.self.view_is) (none_given c.self.inside c.self.invariant c.args.event c.in_err-given.ensures))

pub returns-then-still_has_leaf : goal.returns-then-still_has_leaf
returns-then-still_has_leaf c =
    let has = rw (← c.self.view_is) at c.if-still_has_leaf.ensures in
    rw (← c.self.view_is) (taker_is c.self.inside c.self.invariant c.args.event c.in_ok-given.given c.in_ok-given.ensures (has.0 refl))

pub returns-else-still_has_leaf : goal.returns-else-still_has_leaf
returns-else-still_has_leaf c =
    let has = rw (← c.self.view_is) at c.if-still_has_leaf.ensures in
    rw (← c.self.view_is) (nobody_has c.self.inside c.self.invariant c.args.event c.in_ok-given.given c.in_ok-given.ensures (λ some. true≢false (sym (has.1 some))))
