use Rattle.std.proofs.Common.{subst}
use Rattle.flow_policy.specs.declared.duty.Duty.{Duty}
use Rattle.flow_duty.specs.Replies.{IsLineGiven, WasGiven}
use Rattle.flow_run_why_cli.proofs.Given.{given_next, given_all}
use Rattle.flow_run_why_cli.proofs.replies.tell_duties.Goals as goal

pub loop-place-preserved : goal.loop-place-preserved
loop-place-preserved c =
    given_next WasGiven (c.args.desk.now, c.args.caller.now) (c.loop-place.desk, c.loop-place.caller) (c.tell_duty.new.desk, c.tell_duty.new.caller) c.args.duties.now
    c.loop-place.place c.index-duties-place.result c.loop-place-test.true c.loop-place.invariant
    (subst (λ (d : Duty). IsLineGiven c.loop-place.desk c.loop-place.caller d c.tell_duty.new.desk c.tell_duty.new.caller) c.index-duties-place.is c.tell_duty.ensures)

pub returns : goal.returns
returns c =
    given_all WasGiven (c.args.desk.now, c.args.caller.now) (c.loop-place.desk, c.loop-place.caller) c.args.duties.now c.loop-place.place c.loop-place-test.false
    c.loop-place.invariant
