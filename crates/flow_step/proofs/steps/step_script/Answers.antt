use Rattle.std.proofs.Common.{◌≡◌, ◌<◌, length, rules, arith}
use Rattle.std.proofs.lemmas.Bool.Decides.{nat_tests}
use Rattle.std.proofs.lemmas.Grind.{common_steps}
use Rattle.std.proofs.lemmas.List.{nil_from_length}
use Rattle.flow_form.specs.Script.{said}
use Rattle.flow_step.specs.Step.{ByCommand}
use Rattle.flow_step.proofs.StepLemmas.{under_none, under_some}
use Rattle.flow_step.proofs.steps.step_script.Goals as goal

pub returns-then-is_empty : goal.returns-then-is_empty
returns-then-is_empty c =
    let none : length c.args.policy.now ≡ 0 = search rules in
    under_none (said c.args.script.now) (λ assigned. ByCommand (said c.args.script.now) assigned c.args.history.now c.args.by c.args.line.now) c.step_free.result
    c.args.policy.now (nil_from_length c.args.policy.now none) c.step_free.ensures

pub returns : goal.returns
returns c =
    let some : 0 < length c.args.policy.now = first_of (grind (arith, nat_tests), grind (arith, common_steps)) in
    under_some (said c.args.script.now) (λ assigned. ByCommand (said c.args.script.now) assigned c.args.history.now c.args.by c.args.line.now) c.step_under.result
    c.args.policy.now c.in_ok-policy.policy some c.in_ok-policy.ensures.ok c.step_under.ensures
