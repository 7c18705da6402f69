use Rattle.flow_policy_lint.proofs.TieLemmas.{are_tied}
use Rattle.flow_policy_lint.proofs.ties.are_separate.Goals as goal

pub returns : goal.returns
returns c = are_tied c.args.policy.now.duties.separate c.args.one c.args.two c.separations.result.now c.has_tie.result c.separations.ensures c.has_tie.ensures
