use Rattle.flow_run_laws.proofs.FoldedHistoriesLemmas.{legal_states_extend_in_folded}
use Rattle.flow_run_laws.proofs.histories.law_legal_states_extend_in_folded.Goals as goal

pub returns : goal.returns
returns c = legal_states_extend_in_folded
