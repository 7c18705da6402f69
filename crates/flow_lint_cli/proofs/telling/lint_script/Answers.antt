use Rattle.std.proofs.lemmas.Result.{IfOk-weaker}
use Rattle.flow_lint_cli.proofs.telling.lint_script.Goals as goal

pub returns-in-Ok : goal.returns-in-Ok
returns-in-Ok c = IfOk-weaker c.lint_workflow-output.result _ _ (λ output told. (c.in-Ok.workflow, c.in-Ok.ensures.workflow, told)) c.lint_workflow-output.ensures
