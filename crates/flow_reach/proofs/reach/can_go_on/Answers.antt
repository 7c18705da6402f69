use Rattle.flow_reach.proofs.ReachLemmas.{goes_on}
use Rattle.flow_reach.proofs.reach.can_go_on.Goals as goal

pub returns : goal.returns
returns c = λ done out tell.
    let ordered = c.tokens-tokens.ensures.ordered in
    goes_on c.args.plan.now.process ordered.folded ordered.distinct done out c.is_spoilt.result (c.is_spoilt.ensures done out (tell ordered))
