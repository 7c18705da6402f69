use Rattle.std.proofs.lemmas.Result.{IfOk-weaker}
use Rattle.flow_run_why_cli.proofs.session.drive_commands.Goals as goal

pub returns : goal.returns
returns c = IfOk-weaker c.conclude.result _ _ (λ output told. (c.tell_commands.new.core, c.in_ok-tell_commands.ensures, told)) c.conclude.ensures
