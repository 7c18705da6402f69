use Rattle.flow_run_laws.proofs.FoldedHistoriesLemmas.{goes_on_in_folded, same_stuck, never_stuck_in_folded}
use Rattle.flow_run_laws.proofs.histories.law_never_at_a_loss_in_folded.Goals as goal

pub returns-clause-goes_on : goal.returns-clause-goes_on
returns-clause-goes_on c = goes_on_in_folded

pub returns-clause-stuck : goal.returns-clause-stuck
returns-clause-stuck c = same_stuck

pub returns-clause-without_tests : goal.returns-clause-without_tests
returns-clause-without_tests c = never_stuck_in_folded
