use Rattle.std.proofs.Common.{rules, append_assoc}
use Rattle.flow_reply.proofs.answer.print_late.Goals as goal

pub returns : goal.returns
returns c = search (rules, append_assoc)
