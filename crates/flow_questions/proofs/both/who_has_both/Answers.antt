use Rattle.std.proofs.Common.{◌<◌, sym, arith, true≢false}
use Rattle.flow_questions.specs.Questions.{HasBoth}
use Rattle.flow_questions.proofs.StaffLemmas.{one_more_without}
use Rattle.flow_questions.proofs.both.who_has_both.Goals.{else-has-via-then-has+else-has-2, else-has-via-else-has}
use Rattle.flow_questions.proofs.both.who_has_both.Goals as goal

pub loop-user-preserved : goal.loop-user-preserved
loop-user-preserved c =
    let not : ¬ (HasBoth c.args.run.now.desk c.args.one c.args.two c.loop-user.user) = elim c.else-has.branch [
      | else-has-via-then-has+else-has-2 w ↦ λ both. true≢false (sym (w.if-has-2.ensures.1 both.1))
      | else-has-via-else-has w ↦ λ both. true≢false (sym (w.if-has.ensures.1 both.0))
    ] in
    one_more_without c.args.run.now.desk c.args.one c.args.two c.loop-user.user c.loop-user.invariant not

pub returns-clause-none : goal.returns-clause-none
returns-clause-none c = λ is user below. c.loop-user.invariant user (omega (arith, below, c.loop-user-test.false))
