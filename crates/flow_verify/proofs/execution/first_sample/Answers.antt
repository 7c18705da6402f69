use Rattle.std.proofs.Common.{◌≡◌, List, get_or, ◌∙◌, sym, subst}
use Rattle.std.proofs.lemmas.Result.{IfOk-weaker}
use Rattle.flow_model.specs.Resolution.{OptionTrace}
use Rattle.flow_plan.specs.Sampled.{Sampled}
use Rattle.flow_plan.specs.Options.{option_of}
use Rattle.flow_verify.proofs.Executions.{first_option}
use Rattle.flow_verify.proofs.execution.first_sample.Goals as goal

pub returns : goal.returns
returns c =
    let plan = c.index-plans-0.result in
    let at = subst (λ (l : List Sampled). plan ≡ get_or l 0 plan) c.plans-plans.ensures.plans c.index-plans-0.is in
    IfOk-weaker c.from_slice.result _ _
    (λ v same. (
      option_of plan.plan,
      first_option c.args.compiled.now.plans plan c.plans-plans.ensures.some at,
      subst (λ t. OptionTrace (option_of plan.plan) t) (sym (same ∙ c.sample.ensures.sample)) (c.sample.ensures.trace, c.sample.ensures.in_order),
    ))
    c.from_slice.ensures.items
