use Rattle.std.proofs.Common.{◌≡◌, ◌<◌, ◌≤◌, ℕ, List, length, Result, Ok, Err, refl, inl, inr, arith}
use Rattle.flow_form.specs.Script.{said}
use Rattle.flow_policy.specs.Policy.{IsPolicyOf}
use Rattle.flow_front.specs.Refusal.{the_policy}
use Rattle.flow_front.proofs.Stages.{goes_on}
use Rattle.flow_run_why_cli.specs.Told.{IsOutputOf}
use Rattle.flow_run_why_cli.specs.Session.{DutyLines}
use Rattle.flow_run_why_cli.proofs.Telling.{short_policy}
use Rattle.flow_run_why_cli.proofs.duties.duty_text.Goals as goal

pub returns : goal.returns
returns c =
    let s = said c.args.script.now in
    let policy = c.args.policy.now in
    short_policy c.args.form s policy c.args.session.now c.duty_lines.result (let e = c.if-policy-gt-GREATEST_INPUT.false in omega arith)
    (goes_on (IsOutputOf c.args.form) (the_policy s policy) (IsPolicyOf policy s) (DutyLines s c.args.session.now) c.in_ok-read.read c.duty_lines.result c.in_ok-read.ensures.ok
    c.duty_lines.ensures)
