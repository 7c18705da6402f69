use Rattle.flow_fold_laws.proofs.FoldedFollowingLemmas.{orders_unfold, same_can_take, same_can_do_aside, same_spared, folded_orders_may_follow}
use Rattle.flow_fold_laws.proofs.following.law_folded_options_let_follow.Goals as goal

pub returns-clause-orders : goal.returns-clause-orders
returns-clause-orders c = orders_unfold

pub returns-clause-take : goal.returns-clause-take
returns-clause-take c = same_can_take

pub returns-clause-aside : goal.returns-clause-aside
returns-clause-aside c = same_can_do_aside

pub returns-clause-spared : goal.returns-clause-spared
returns-clause-spared c = same_spared

pub returns-clause-each_option : goal.returns-clause-each_option
returns-clause-each_option c = folded_orders_may_follow
