use Rattle.flow_policy_lint.proofs.TieLemmas.{are_tied}
use Rattle.flow_policy_lint.proofs.ties.are_bound.Goals as goal

pub returns : goal.returns
returns c = are_tied c.args.policy.now.duties.bound c.args.one c.args.two c.bindings.result.now c.has_tie.result c.bindings.ensures c.has_tie.ensures
