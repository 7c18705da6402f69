use Rattle.std.proofs.Common.{ℕ, List, take, drop, subst}
use Rattle.std.proofs.lemmas.List.{take_rest}
use Rattle.flow_form.specs.Script.{said}
use Rattle.flow_policy.specs.Policy.{IsPolicyOf}
use Rattle.flow_front.specs.Refusal.{the_policy}
use Rattle.flow_front.proofs.Stages.{goes_on}
use Rattle.flow_cli.specs.Finding.{IsOutputOf, Answers}
use Rattle.flow_cli.specs.Duty.{policy_part, session_part, DutyLines}
use Rattle.flow_cli.proofs.duty.duty_text.Goals as goal

pub returns : goal.returns
returns c =
    goes_on IsOutputOf (the_policy (said c.args.script.now) (policy_part c.args.text.now)) (IsPolicyOf (policy_part c.args.text.now) (said c.args.script.now))
    (DutyLines (said c.args.script.now) c.args.steps (session_part c.args.text.now)) c.in_ok-policy.policy c.duty_lines.result
    (subst (λ (cut : ℕ × ℕ). IsPolicyOf (take cut.0 c.args.text.now) (said c.args.script.now) c.in_ok-policy.policy) c.cut-end.ensures.parts c.in_ok-policy.ensures.ok)
    (subst (λ (cut : ℕ × ℕ). Answers (DutyLines (said c.args.script.now) c.args.steps (drop cut.1 c.args.text.now) c.in_ok-policy.policy) c.duty_lines.result)
    c.cut-end.ensures.parts
    (subst (λ (text : List ℕ). Answers (DutyLines (said c.args.script.now) c.args.steps text c.in_ok-policy.policy) c.duty_lines.result)
    (take_rest c.args.text.now c.cut-end.result.1) c.duty_lines.ensures))
