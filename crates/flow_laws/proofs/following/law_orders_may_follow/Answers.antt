use Rattle.flow_laws.proofs.OrdersByTwo.{orders_may_follow, orders_may_follow_one}
use Rattle.flow_laws.proofs.following.law_orders_may_follow.Goals as goal

pub returns-clause-every_order : goal.returns-clause-every_order
returns-clause-every_order c = orders_may_follow

pub returns-clause-after_one : goal.returns-clause-after_one
returns-clause-after_one c = orders_may_follow_one
