use Rattle.test_laws.proofs.TakingLemmas.{then_b_or_c}
use Rattle.test_laws.proofs.plain.case_plain_goes_side_by_side.Goals as goal

pub returns-clause-then : goal.returns-clause-then
returns-clause-then c = then_b_or_c
