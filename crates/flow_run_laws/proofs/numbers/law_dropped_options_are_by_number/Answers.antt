use Rattle.flow_run_laws.proofs.DroppedNumbersLemmas.{numbered_are_the_options, dropped_are_by_number}
use Rattle.flow_run_laws.proofs.numbers.law_dropped_options_are_by_number.Goals as goal

pub returns-clause-numbered : goal.returns-clause-numbered
returns-clause-numbered c = numbered_are_the_options

pub returns-clause-dropped : goal.returns-clause-dropped
returns-clause-dropped c = dropped_are_by_number
