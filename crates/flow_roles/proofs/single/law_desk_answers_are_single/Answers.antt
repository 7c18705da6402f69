use Rattle.flow_roles.proofs.SingleLemmas.{takes_at_desk, posts_at_desk, others_at_desk, answers_at_desk}
use Rattle.flow_roles.proofs.single.law_desk_answers_are_single.Goals as goal

pub returns : goal.returns
returns c = record { takes = takes_at_desk; posts = posts_at_desk; others = others_at_desk; answers = answers_at_desk }
