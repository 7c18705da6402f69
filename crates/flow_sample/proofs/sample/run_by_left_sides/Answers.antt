use Rattle.std.proofs.Common.{◌≡◌, subst, sym}
use Rattle.std.proofs.lemmas.Result.{IfOk-weaker}
use Rattle.flow_model.specs.Circle.{IsCircle}
use Rattle.flow_model.specs.Process.{IsChoiceFree}
use Rattle.flow_model.specs.Resolution.{OptionTrace}
use Rattle.flow_plan.specs.Options.{HasExecution, option_of}
use Rattle.flow_plan.specs.Planned.{pairs_of}
use Rattle.flow_sample.specs.Sample.{left_option}
use Rattle.flow_sample.proofs.LaidLemmas.{none_by_circle}
use Rattle.flow_goal.proofs.KeptLemmas.{left_sides_free}
use Rattle.flow_sample.proofs.SideLemmas.{left_traced, ordered}
use Rattle.flow_sample.proofs.sample.run_by_left_sides.Goals as goal

pub run_without_choices-requires : goal.run_without_choices-requires
run_without_choices-requires c = subst IsChoiceFree (sym c.requires.process) (left_sides_free c.args.plan.now.process)

pub circle_outside-requires : goal.circle_outside-requires
circle_outside-requires c =
    let plan = c.args.plan.now in
    let left = c.args.left.now in
    let same : option_of left ≡ left_option plan = λ i. record { resolution = c.requires.process i; order = pairs_of (c.requires.tokens i) } in
    let free = subst IsChoiceFree (sym c.requires.process) (left_sides_free plan.process) in
    let told : IsCircle left.process (pairs_of left.tokens) c.in-Err-Circle.field-0-0.leaves.items = rw c.in-Err-Circle.field-0-is at c.in-Err-Circle.ensures.circle in
    subst (λ o. ¬ (HasExecution o)) same
    (none_by_circle (option_of left) (ordered left.process (pairs_of left.tokens) c.tokens-same_tokens.ensures.ordered free) c.in-Err-Circle.field-0-0.leaves.items told)

pub returns-in_default-2-clause-ok : goal.returns-in_default-2-clause-ok
returns-in_default-2-clause-ok c =
    let plan = c.args.plan.now in
    let same : option_of c.args.left.now ≡ left_option plan = λ i. record { resolution = c.requires.process i; order = pairs_of (c.requires.tokens i) } in
    IfOk-weaker c.run_without_choices.result _ _
    (λ run h. left_traced plan.process (pairs_of plan.tokens) c.tokens-tokens.ensures.ordered run.items (subst (λ o. OptionTrace o run.items) same h))
    c.run_without_choices.ensures.ok
