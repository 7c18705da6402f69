use Rattle.std.proofs.Common.{◌<◌, ◌∙◌, List, sym, subst}
use Rattle.flow_model.specs.Lists.{Each}
use Rattle.flow_model.specs.Resolution.{OptionTrace}
use Rattle.flow_plan.specs.declared.token.OrderToken.{OrderToken}
use Rattle.flow_plan.specs.Options.{option_of}
use Rattle.flow_plan.specs.Planned.{pairs_of}
use Rattle.flow_sample.proofs.ForwardLemmas.{forward_run}
use Rattle.flow_sample.proofs.SideLemmas.{ordered}
use Rattle.flow_sample.proofs.sample.run_without_choices.Goals as goal

pub returns-then-lead_forward-clause-ok : goal.returns-then-lead_forward-clause-ok
returns-then-lead_forward-clause-ok c =
    let plan = c.args.plan.now in
    subst (OptionTrace (option_of plan)) (sym (c.in_ok-from_slice.ensures.items ∙ c.leaves-leaves.ensures.leaves))
    (forward_run plan (ordered c.args.plan.now.process (pairs_of c.args.plan.now.tokens) c.tokens.ensures.ordered c.requires) c.leaves-leaves.ensures.listed c.leaves-leaves.ensures.rising
    (subst (λ (ts : List OrderToken). Each (λ (token : OrderToken). token.sender < token.receiver) ts) c.tokens.ensures.tokens
    (c.lead_forward.ensures.0 c.if-lead_forward.true)))
