use Rattle.flow_duty_laws.proofs.Each.{done_leaves_have_takers}
use Rattle.flow_duty_laws.proofs.law_done_leaves_have_takers.Goals as goal

pub returns : goal.returns
returns c = done_leaves_have_takers
