use Rattle.std.proofs.Common.{Ok}
use Rattle.flow_form.specs.Script.{said}
use Rattle.flow_front.proofs.Stages.{when_prepared, when_not_prepared}
use Rattle.flow_cli.specs.Finding.{IsOutputOf}
use Rattle.flow_cli.specs.Duty.{DrivesUsers}
use Rattle.flow_cli.proofs.duty.duty_script.Goals as goal

pub returns-in_ok-drive_users-in-Ok : goal.returns-in_ok-drive_users-in-Ok
returns-in_ok-drive_users-in-Ok c =
    when_prepared IsOutputOf (said c.args.script.now) (λ w k. DrivesUsers w c.args.steps c.args.policy c.args.session.now) c.in-Ok.prepared.workflow
    c.in-Ok.prepared.compiled (Ok c.in_ok-drive_users-in-Ok.field-0) c.in-Ok.ensures.prepared c.in_ok-drive_users-in-Ok.ensures

pub returns-in-Err : goal.returns-in-Err
returns-in-Err c =
    when_not_prepared IsOutputOf (said c.args.script.now) (λ w k. DrivesUsers w c.args.steps c.args.policy c.args.session.now) c.in-Err.stop c.in-Err.ensures.stop
