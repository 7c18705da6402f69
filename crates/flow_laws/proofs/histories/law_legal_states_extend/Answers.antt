use Rattle.flow_laws.proofs.NeverAtALoss.{sound_state}
use Rattle.flow_laws.proofs.histories.law_legal_states_extend.Goals as goal

pub returns : goal.returns
returns c = sound_state
