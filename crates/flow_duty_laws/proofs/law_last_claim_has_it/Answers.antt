use Rattle.flow_duty_laws.proofs.Last.{last_has_it}
use Rattle.flow_duty_laws.proofs.law_last_claim_has_it.Goals as goal

pub returns : goal.returns
returns c = last_has_it
