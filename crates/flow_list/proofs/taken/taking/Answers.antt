use Rattle.std.proofs.Common.{◌≤◌, length, true≢false, refl, sym, arith}
use Rattle.flow_list.proofs.OutLemmas.{told_first, not_gave, none_told_at_all}
use Rattle.flow_list.proofs.taken.taking.Goals as goal

pub returns-then-gave : goal.returns-then-gave
returns-then-gave c =
    told_first c.args.history.now c.args.tellers.now c.args.claim c.loop-place.place _ _ c.teller_at.result c.loop-place-test.true refl c.loop-place.invariant
    (c.if-gave.ensures.0 refl) c.teller_at.ensures

pub loop-place-preserved : goal.loop-place-preserved
loop-place-preserved c =
    not_gave c.args.history.now c.args.claim c.loop-place.place _ _ c.loop-place-test.true refl c.loop-place.invariant
    (λ is. true≢false (sym (c.if-gave.ensures.1 is)))

pub returns : goal.returns
returns c =
    let past : length c.args.history.now ≤ c.loop-place.place = omega arith in
    none_told_at_all c.args.history.now c.args.tellers.now c.args.claim c.loop-place.place past c.loop-place.invariant
