use Rattle.flow_step.proofs.StoredLemmas.{stored}
use Rattle.flow_step.proofs.stored.law_what_is_stored_is_legal.Goals as goal

pub returns : goal.returns
returns c = stored
