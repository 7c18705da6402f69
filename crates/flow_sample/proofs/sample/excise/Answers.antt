use Rattle.flow_plan.specs.Planned.{pairs_of}
use Rattle.flow_sample.proofs.SideLemmas.{folded_reason}
use Rattle.flow_sample.proofs.sample.excise.Goals as goal

pub returns-in-Err-clause-circle : goal.returns-in-Err-clause-circle
returns-in-Err-clause-circle c =
    folded_reason c.args.plan.process (pairs_of c.args.plan.tokens) c.tokens-tokens.ensures.ordered c.in-Err.refusal c.in-Err.ensures.circle
