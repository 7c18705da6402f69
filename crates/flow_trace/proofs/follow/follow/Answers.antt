use Rattle.flow_trace.proofs.FrontLemmas.{finishes_so, reaches_so}
use Rattle.flow_trace.proofs.follow.follow.Goals as goal

pub follow-requires : goal.follow-requires
follow-requires c = c.requires c.tokens-tokens.ensures.ordered

pub returns-clause-reaches : goal.returns-clause-reaches
returns-clause-reaches c = reaches_so c.args.plan.now c.args.leaves.now c.follow.result.0 c.follow.ensures.followed

pub returns-clause-whole : goal.returns-clause-whole
returns-clause-whole c = finishes_so c.args.plan.now c.args.leaves.now c.follow.result.0 c.follow.ensures.followed c.follow.result.1 c.follow.ensures.whole
