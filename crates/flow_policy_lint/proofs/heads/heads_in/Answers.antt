use Rattle.flow_policy_lint.proofs.HeadSteps.{left_token}
use Rattle.flow_policy_lint.proofs.heads.heads_in.Goals as goal

pub symbol_of-symbol-requires-clause-within : goal.symbol_of-symbol-requires-clause-within
symbol_of-symbol-requires-clause-within c =
    (left_token c.args.text.now c.loop-token.rest.now c.in-Some.more.now c.in-Some.token.now c.in-Some.ensures.cases.0 c.loop-token.invariant.0).1
