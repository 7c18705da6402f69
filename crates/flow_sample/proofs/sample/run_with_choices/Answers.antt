use Rattle.std.proofs.Common.{◌<◌, List, sym, subst}
use Rattle.std.specs.List.Sorted.{IsStrictlyIncreasing}
use Rattle.flow_model.specs.Lists.{Each}
use Rattle.flow_model.specs.Resolution.{OptionTrace}
use Rattle.flow_plan.specs.declared.token.OrderToken.{OrderToken}
use Rattle.flow_plan.specs.Options.{option_of}
use Rattle.flow_sample.proofs.LeftLemmas.{left_run}
use Rattle.flow_sample.proofs.sample.run_with_choices.Goals as goal

pub returns-then-lead_forward-clause-ok : goal.returns-then-lead_forward-clause-ok
returns-then-lead_forward-clause-ok c =
    let plan = c.args.plan.now in
    subst (OptionTrace (option_of plan)) (sym c.in_ok-left_leaves.ensures)
    (left_run plan.process plan.tokens c.tokens.ensures.ordered (subst IsStrictlyIncreasing c.leaves-leaves.ensures.listed c.leaves-leaves.ensures.rising)
    (subst (λ (ts : List OrderToken). Each (λ (token : OrderToken). token.sender < token.receiver) ts) c.tokens.ensures.tokens
    (c.lead_forward.ensures.0 c.if-lead_forward.true)))
