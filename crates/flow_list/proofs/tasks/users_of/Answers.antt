use Rattle.flow_list.proofs.RunLemmas.{users_under}
use Rattle.flow_list.proofs.tasks.users_of.Goals as goal

pub returns-in_ok-found-in-UnderPolicy : goal.returns-in_ok-found-in-UnderPolicy
returns-in_ok-found-in-UnderPolicy c =
    users_under c.args.run.now c.in-UnderPolicy.ruled c.core.result.now c.policy.result.now c.args.users c.args.leaf c.in_ok-found-in-UnderPolicy.found c.in-UnderPolicy.is
    c.core.ensures.run c.policy.ensures c.in_ok-found-in-UnderPolicy.ensures
