use Rattle.std.proofs.Common.{take}
use Rattle.flow_duty.specs.Replies.{WasGiven}
use Rattle.flow_run_why_cli.specs.Session.{AreGiven}
use Rattle.flow_run_why_cli.proofs.replies.tell_duties.Given as goal

abbrev pub invariant-loop-place : goal.invariant-loop-place
invariant-loop-place l = AreGiven WasGiven (l.fn.desk, l.fn.caller) (take l.place l.duties) (l.desk, l.caller)
