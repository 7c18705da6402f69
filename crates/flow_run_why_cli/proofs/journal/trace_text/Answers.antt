use Rattle.flow_form.specs.Script.{said}
use Rattle.flow_expand.specs.Workflows.{IsExpanded}
use Rattle.flow_front.specs.Refusal.{the_script}
use Rattle.flow_front.proofs.Stages.{goes_on}
use Rattle.flow_run_why_cli.specs.Told.{IsOutputOf}
use Rattle.flow_run_why_cli.specs.Journal.{TracesWorkflow}
use Rattle.flow_run_why_cli.proofs.journal.trace_text.Goals as goal

pub returns : goal.returns
returns c =
    goes_on (IsOutputOf c.args.form) (the_script (said c.args.script.now)) (IsExpanded (said c.args.script.now)) (λ w. TracesWorkflow w c.args.journal.now)
    c.in_ok-workflow.workflow c.trace_workflow.result c.in_ok-workflow.ensures.workflow c.trace_workflow.ensures
