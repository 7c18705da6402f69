use Rattle.flow_run_laws.proofs.FoldedStepsLemmas.{same_allowed, same_claims_spared, same_left, same_legal}
use Rattle.flow_run_laws.proofs.histories.law_legal_histories_are_the_same_in_folded.Goals as goal

pub returns-clause-allowed : goal.returns-clause-allowed
returns-clause-allowed c = same_allowed

pub returns-clause-spared : goal.returns-clause-spared
returns-clause-spared c = same_claims_spared

pub returns-clause-left : goal.returns-clause-left
returns-clause-left c = same_left

pub returns-clause-legal : goal.returns-clause-legal
returns-clause-legal c = same_legal
