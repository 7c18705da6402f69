use Rattle.flow_form.specs.Script.{said, asked}
use Rattle.flow_expand.specs.Workflows.{IsExpanded}
use Rattle.flow_front.specs.Refusal.{the_script}
use Rattle.flow_front.proofs.Stages.{goes_on}
use Rattle.flow_run_why_cli.specs.Told.{IsOutputOf}
use Rattle.flow_run_why_cli.specs.Query.{VerifiesWorkflow}
use Rattle.flow_run_why_cli.proofs.query.verify_script.Goals as goal

pub returns : goal.returns
returns c =
    goes_on (IsOutputOf c.args.form) (the_script (said c.args.script.now)) (IsExpanded (said c.args.script.now)) (λ w. VerifiesWorkflow w (asked c.args.query.now))
    c.in_ok-workflow.workflow c.verify_workflow-output.result c.in_ok-workflow.ensures.workflow c.verify_workflow-output.ensures
