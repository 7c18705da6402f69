use Rattle.flow_form.specs.Script.{said}
use Rattle.flow_expand.specs.Workflows.{IsExpanded}
use Rattle.flow_front.specs.Refusal.{the_script}
use Rattle.flow_front.proofs.Stages.{goes_on}
use Rattle.flow_cli.specs.Finding.{IsOutputOf}
use Rattle.flow_cli.specs.Check.{ChecksWorkflow}
use Rattle.flow_cli.proofs.check.check.Goals as goal

pub returns : goal.returns
returns c =
    goes_on IsOutputOf (the_script (said c.args.script.now)) (IsExpanded (said c.args.script.now)) ChecksWorkflow c.in_ok-workflow.workflow c.check_workflow-output.result
    c.in_ok-workflow.ensures.workflow c.check_workflow-output.ensures
