use Rattle.std.proofs.Common.{inr}
use Rattle.std.proofs.lemmas.Result.{IfOk-weaker}
use Rattle.flow_form.specs.Script.{said}
use Rattle.flow_run_why_words.specs.Parts.{part_of}
use Rattle.flow_run_why_cli.specs.Session.{DrivesAsked}
use Rattle.flow_run_why_cli.proofs.Telling.{source_stopped}
use Rattle.flow_run_why_cli.proofs.session.explain_session.Goals as goal

pub returns-in-Ok : goal.returns-in-Ok
returns-in-Ok c =
    IfOk-weaker c.explain_asked-output.result _ _ (λ output told. inr (said c.in-Ok.script, c.in-Ok.ensures.says, told)) c.explain_asked-output.ensures

pub returns-in-Err : goal.returns-in-Err
returns-in-Err c = source_stopped (DrivesAsked c.args.policy c.args.session.now) c.args.text.now c.args.form c.in-Err.stop c.explain_stop.result c.in-Err.ensures.stop c.explain_stop.ensures
