use Rattle.std.proofs.Common.{Ok, refl}
use Rattle.flow_form.specs.Script.{said}
use Rattle.flow_front.proofs.Stages.{when_prepared, when_not_prepared}
use Rattle.flow_run_why_cli.specs.Told.{IsOutputOf}
use Rattle.flow_run_why_cli.specs.Session.{answer_of, DrivesUsers}
use Rattle.flow_run_why_cli.proofs.duties.duty_script.Goals as goal

pub returns-in_ok-drive_users-in-Ok : goal.returns-in_ok-drive_users-in-Ok
returns-in_ok-drive_users-in-Ok c =
    let (last, is, told) = c.in_ok-drive_users-in-Ok.ensures in
    when_prepared (IsOutputOf c.args.form) (said c.args.script.now) (λ w k. DrivesUsers w c.args.policy c.args.duties.now) c.in-Ok.prepared.workflow
    c.in-Ok.prepared.compiled (Ok c.in_ok-drive_users-in-Ok.field-0) c.in-Ok.ensures.prepared (answer_of last.run, (last, (is, refl)), told)

pub returns-in-Err : goal.returns-in-Err
returns-in-Err c =
    when_not_prepared (IsOutputOf c.args.form) (said c.args.script.now) (λ w k. DrivesUsers w c.args.policy c.args.duties.now) c.in-Err.stop c.in-Err.ensures.stop
