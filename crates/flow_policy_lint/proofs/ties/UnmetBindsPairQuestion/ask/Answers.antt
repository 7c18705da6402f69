use Rattle.flow_policy_lint.proofs.BoolLemmas.{both}
use Rattle.flow_policy_lint.proofs.ties.UnmetBindsPairQuestion.ask.Goals as goal

pub returns-then-one-two : goal.returns-then-one-two
returns-then-one-two c = both c.is_bound_in_vain.result c.if-one-two.true c.is_bound_in_vain.ensures
