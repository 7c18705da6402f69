use Rattle.flow_turn.proofs.NumberLemmas.{numbers_are_new}
use Rattle.flow_turn.proofs.numbers.law_numbers_are_new.Goals as goal

pub returns : goal.returns
returns g c = numbers_are_new
