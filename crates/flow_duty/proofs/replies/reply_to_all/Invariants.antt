use Rattle.std.proofs.Common.{take}
use Rattle.flow_duty.specs.Replies.{DrivesDesk}
use Rattle.flow_duty.proofs.replies.reply_to_all.Given as goal

abbrev pub invariant-loop-line : goal.invariant-loop-line
invariant-loop-line l = DrivesDesk l.fn.desk l.fn.caller (take l.line-index l.lines) l.text.items l.desk l.caller
