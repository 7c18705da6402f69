use Rattle.flow_policy_lint.proofs.BoolLemmas.{both}
use Rattle.flow_policy_lint.proofs.ties.UnmetSeparatesPairQuestion.ask.Goals as goal

pub returns-then-one-two : goal.returns-then-one-two
returns-then-one-two c = both c.is_separate_in_vain.result c.if-one-two.true c.is_separate_in_vain.ensures
