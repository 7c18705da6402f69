use Rattle.std.proofs.Common.{take}
use Rattle.flow_run_why_cli.specs.Session.{IsDriven}
use Rattle.flow_run_why_cli.proofs.replies.tell_commands.Given as goal

abbrev pub invariant-loop-place : goal.invariant-loop-place
invariant-loop-place l = IsDriven l.fn.core (take l.place l.commands) l.core
