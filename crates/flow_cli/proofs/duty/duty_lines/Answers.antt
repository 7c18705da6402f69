use Rattle.std.proofs.Common.{◌≡◌, List, subst}
use Rattle.flow_form.specs.Script.{said}
use Rattle.flow_record.specs.Session.{commands}
use Rattle.flow_policy.specs.declared.duty.Duty.{Duty}
use Rattle.flow_policy.specs.Session.{duties_of}
use Rattle.flow_front.specs.Refusal.{the_duties}
use Rattle.flow_front.proofs.Stages.{goes_on}
use Rattle.flow_cli.specs.Finding.{IsOutputOf, Answers}
use Rattle.flow_cli.specs.Duty.{DutySaid}
use Rattle.flow_cli.proofs.duty.duty_lines.Goals as goal

pub returns-in-Ok : goal.returns-in-Ok
returns-in-Ok c =
    goes_on IsOutputOf (the_duties c.args.text.now) (λ session. duties_of c.args.text.now ≡ commands session) (DutySaid (said c.args.script.now) c.args.steps c.args.policy)
    c.in-Ok.session.items c.duty_script-output.result c.in-Ok.ensures.ok
    (subst (λ (session : List Duty). Answers (DutySaid (said c.args.script.now) c.args.steps c.args.policy session) c.duty_script-output.result) c.deref.ensures.value
    c.duty_script-output.ensures)
