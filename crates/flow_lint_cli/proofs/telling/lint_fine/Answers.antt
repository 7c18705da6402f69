use Rattle.std.proofs.lemmas.Result.{IfOk-weaker}
use Rattle.flow_form.specs.Script.{said}
use Rattle.flow_lint_cli.proofs.telling.lint_fine.Goals as goal

pub returns-in-Ok : goal.returns-in-Ok
returns-in-Ok c = IfOk-weaker c.lint_script-output.result _ _ (λ output told. (said c.in-Ok.script, c.in-Ok.ensures.says, told)) c.lint_script-output.ensures
