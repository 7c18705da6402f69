use Rattle.std.proofs.Common.{inr}
use Rattle.std.proofs.lemmas.Result.{IfOk-weaker}
use Rattle.flow_form.specs.Script.{said}
use Rattle.flow_why_cli.proofs.telling.explain.Goals as goal

pub returns-in-Ok : goal.returns-in-Ok
returns-in-Ok c =
    IfOk-weaker c.explain_script-output.result _ _ (λ output told. inr (said c.in-Ok.script, c.in-Ok.ensures.says, told)) c.explain_script-output.ensures
