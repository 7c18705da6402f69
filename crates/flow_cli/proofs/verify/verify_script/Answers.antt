use Rattle.flow_form.specs.Script.{said, asked}
use Rattle.flow_expand.specs.Workflows.{IsExpanded}
use Rattle.flow_front.specs.Refusal.{the_script}
use Rattle.flow_front.proofs.Stages.{goes_on}
use Rattle.flow_cli.specs.Finding.{IsOutputOf}
use Rattle.flow_cli.specs.Verify.{VerifiesWorkflow}
use Rattle.flow_cli.proofs.verify.verify_script.Goals as goal

pub returns : goal.returns
returns c =
    goes_on IsOutputOf (the_script (said c.args.script.now)) (IsExpanded (said c.args.script.now)) (λ w. VerifiesWorkflow w (asked c.args.query.now)) c.in_ok-workflow.workflow
    c.verify_workflow-output.result c.in_ok-workflow.ensures.workflow c.verify_workflow-output.ensures
