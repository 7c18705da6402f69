use Rattle.flow_list.proofs.RunLemmas.{stands_under}
use Rattle.flow_list.proofs.line.state_of.Goals as goal

pub returns-in-UnderPolicy : goal.returns-in-UnderPolicy
returns-in-UnderPolicy c =
    stands_under c.args.run.now c.in-UnderPolicy.ruled c.core.result.now c.policy.result.now c.args.users c.state_under.result c.in-UnderPolicy.is c.core.ensures.run
    c.policy.ensures c.state_under.ensures
