use Rattle.std.proofs.lemmas.Result.{IfOk-weaker}
use Rattle.flow_run_why_cli.proofs.duties.drive_desk.Goals as goal

pub returns : goal.returns
returns c =
    IfOk-weaker c.conclude.result _ _ (λ output told. (c.tell_duties.new.desk, (c.tell_duties.new.caller, c.in_ok-tell_duties.ensures), told)) c.conclude.ensures
