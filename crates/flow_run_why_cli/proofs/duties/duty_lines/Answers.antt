use Rattle.std.proofs.Common.{◌≡◌, List, subst}
use Rattle.flow_form.specs.Script.{said}
use Rattle.flow_record.specs.Session.{commands}
use Rattle.flow_policy.specs.declared.duty.Duty.{Duty}
use Rattle.flow_policy.specs.Session.{duties_of}
use Rattle.flow_front.specs.Refusal.{the_duties}
use Rattle.flow_front.proofs.Stages.{goes_on}
use Rattle.flow_run_why_cli.specs.Told.{IsOutputOf, Tells}
use Rattle.flow_run_why_cli.specs.Session.{DutySaid}
use Rattle.flow_run_why_cli.proofs.duties.duty_lines.Goals as goal

pub returns-in-Ok : goal.returns-in-Ok
returns-in-Ok c =
    let s = said c.args.script.now in
    goes_on (IsOutputOf c.args.form) (the_duties c.args.session.now) (λ lines. duties_of c.args.session.now ≡ commands lines) (DutySaid s c.args.policy)
    c.in-Ok.duties.items c.duty_script-output.result c.in-Ok.ensures.ok
    (subst (λ (lines : List Duty). Tells c.args.form (DutySaid s c.args.policy lines) c.duty_script-output.result) c.deref.ensures.value c.duty_script-output.ensures)
