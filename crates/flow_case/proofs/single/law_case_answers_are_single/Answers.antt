use Rattle.flow_case.proofs.SingleLemmas.{cases_once}
use Rattle.flow_case.proofs.single.law_case_answers_are_single.Goals as goal

pub returns : goal.returns
returns c = cases_once
