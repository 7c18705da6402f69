use Rattle.std.proofs.Common.{refl, sym, true≢false}
use Rattle.flow_questions.proofs.StaffLemmas.{one_more_closed, unmanned_here}
use Rattle.flow_questions.proofs.manned.unmanned.Goals as goal

pub loop-leaf-preserved : goal.loop-leaf-preserved
loop-leaf-preserved c =
    one_more_closed c.args.run.now.desk.run c.args.event c.loop-leaf.leaf c.loop-leaf.invariant (λ can. true≢false (sym (c.if-can_take.ensures.1 can)))

pub returns-then-can_take-clause-some : goal.returns-then-can_take-clause-some
returns-then-can_take-clause-some c =
    let can = c.if-can_take.ensures.0 refl in
    unmanned_here c.args.run.now.desk c.loop-leaf.leaf c.args.event can.0 can.1 (c.if-not-is_for_nobody.ensures.0 refl)
