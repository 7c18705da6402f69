use Rattle.flow_form.specs.Script.{said}
use Rattle.flow_expand.specs.Workflows.{IsExpanded}
use Rattle.flow_front.specs.Refusal.{the_script}
use Rattle.flow_front.proofs.Stages.{goes_on}
use Rattle.flow_cli.specs.Finding.{IsOutputOf}
use Rattle.flow_cli.specs.Trace.{TracesWorkflow}
use Rattle.flow_cli.proofs.trace.trace_text.Goals as goal

pub returns : goal.returns
returns c =
    goes_on IsOutputOf (the_script (said c.args.script.now)) (IsExpanded (said c.args.script.now)) (λ w. TracesWorkflow w c.args.text.now) c.in_ok-workflow.workflow
    c.trace_workflow-output.result c.in_ok-workflow.ensures.workflow c.trace_workflow-output.ensures
