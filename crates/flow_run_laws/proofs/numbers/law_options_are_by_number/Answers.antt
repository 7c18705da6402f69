use Rattle.flow_run_laws.proofs.OptionNumbersLemmas.{options_are_by_number, folded_options_are_by_number, ways_are_by_number, unfoldings_measure_the_same, unfoldings_are_counted}
use Rattle.flow_run_laws.proofs.numbers.law_options_are_by_number.Goals as goal

pub returns-clause-options : goal.returns-clause-options
returns-clause-options c = options_are_by_number

pub returns-clause-folded : goal.returns-clause-folded
returns-clause-folded c = folded_options_are_by_number

pub returns-clause-ways : goal.returns-clause-ways
returns-clause-ways c = ways_are_by_number

pub returns-clause-unfoldings : goal.returns-clause-unfoldings
returns-clause-unfoldings c = unfoldings_measure_the_same

pub returns-clause-counted : goal.returns-clause-counted
returns-clause-counted c = unfoldings_are_counted
