use Rattle.std.proofs.Common.{take}
use Rattle.flow_reply.specs.Replies.{Replies, Goes}
use Rattle.flow_reply.proofs.replies.reply_to_all.Given as goal

abbrev pub invariant-loop-command : goal.invariant-loop-command
invariant-loop-command g l = record {
  gone : Goes (Replies g.R.Asked.run g.R.Asked.answers g.R.Asked.is_same l.by) l.fn.run (take l.command-index l.commands) l.text.items l.run;
  can : g.R.Asked.can_be_asked l.run;
}
