use Rattle.std.proofs.Common.{inr}
use Rattle.std.proofs.lemmas.Result.{IfOk-weaker}
use Rattle.flow_why_cli.proofs.telling.explain_script.Goals as goal

pub returns-in-Ok : goal.returns-in-Ok
returns-in-Ok c =
    IfOk-weaker c.explain_workflow-output.result _ _ (λ output told. inr (c.in-Ok.workflow, c.in-Ok.ensures.workflow, told)) c.explain_workflow-output.ensures
