use Rattle.std.proofs.Common.{Some}
use Rattle.flow_form.specs.Script.{said}
use Rattle.flow_step.proofs.StepLemmas.{stepped_so, stopped_so}
use Rattle.flow_step.proofs.steps.step_under.Goals as goal

pub returns-in_ok-step_desk-in-Ok-prepare : goal.returns-in_ok-step_desk-in-Ok-prepare
returns-in_ok-step_desk-in-Ok-prepare c =
    stepped_so (said c.args.script.now) (Some c.args.policy) c.args.history.now c.args.by c.args.line.now c.in-Ok.command c.in-Ok.ensures.says
    c.in-Ok-prepare.prepared.workflow c.in-Ok-prepare.prepared.compiled c.in_ok-step_desk-in-Ok-prepare.field-0 c.in-Ok-prepare.ensures.prepared
    c.in_ok-step_desk-in-Ok-prepare.ensures

pub returns-in-Err-prepare : goal.returns-in-Err-prepare
returns-in-Err-prepare c =
    stopped_so (said c.args.script.now) (Some c.args.policy) c.args.history.now c.args.by c.args.line.now c.in-Ok.command c.in-Ok.ensures.says c.in-Err-prepare.stop
    c.in-Err-prepare.ensures.stop
