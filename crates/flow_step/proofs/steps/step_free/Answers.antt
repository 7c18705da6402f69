use Rattle.std.proofs.Common.{None}
use Rattle.flow_form.specs.Script.{said}
use Rattle.flow_step.proofs.StepLemmas.{stepped_so, stopped_so}
use Rattle.flow_step.proofs.steps.step_free.Goals as goal

pub returns-in_ok-step_run-in-Ok : goal.returns-in_ok-step_run-in-Ok
returns-in_ok-step_run-in-Ok c =
    stepped_so (said c.args.script.now) None c.args.history.now c.args.by c.args.line.now c.in_ok-command.command c.in_ok-command.ensures.says
    c.in-Ok.prepared.workflow c.in-Ok.prepared.compiled c.in_ok-step_run-in-Ok.field-0 c.in-Ok.ensures.prepared c.in_ok-step_run-in-Ok.ensures

pub returns-in-Err : goal.returns-in-Err
returns-in-Err c =
    stopped_so (said c.args.script.now) None c.args.history.now c.args.by c.args.line.now c.in_ok-command.command c.in_ok-command.ensures.says c.in-Err.stop
    c.in-Err.ensures.stop
