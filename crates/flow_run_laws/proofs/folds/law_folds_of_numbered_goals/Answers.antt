use Rattle.flow_run_laws.proofs.NumberedFoldsLemmas.{all_options_are_unfoldings, all_unfoldings_are_of_one, all_folded_options_are_ordered, all_orders_unfold, all_taken_alike, all_done_alike, all_spared_alike}
use Rattle.flow_run_laws.proofs.folds.law_folds_of_numbered_goals.Goals as goal

pub returns-clause-options : goal.returns-clause-options
returns-clause-options c = all_options_are_unfoldings

pub returns-clause-of_one : goal.returns-clause-of_one
returns-clause-of_one c = all_unfoldings_are_of_one

pub returns-clause-ordered : goal.returns-clause-ordered
returns-clause-ordered c = all_folded_options_are_ordered

pub returns-clause-orders : goal.returns-clause-orders
returns-clause-orders c = all_orders_unfold

pub returns-clause-take : goal.returns-clause-take
returns-clause-take c = all_taken_alike

pub returns-clause-aside : goal.returns-clause-aside
returns-clause-aside c = all_done_alike

pub returns-clause-spared : goal.returns-clause-spared
returns-clause-spared c = all_spared_alike
