use Rattle.flow_duty.proofs.OnceLemmas.{sessions_once}
use Rattle.flow_duty.proofs.single.law_user_sessions_are_single.Goals as goal

pub returns : goal.returns
returns c = sessions_once c.law_desk_answers_are_single.ensures.answers
