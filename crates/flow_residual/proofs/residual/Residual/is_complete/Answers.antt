use Rattle.flow_residual.proofs.Following.{is_good}
use Rattle.flow_residual.proofs.QuestionLemmas.{in_words}
use Rattle.flow_residual.proofs.residual.Residual.is_complete.Goals as goal

pub returns : goal.returns
returns c w s of = in_words c.some_has.result _ _ c.some_has.ensures (is_good w s c.args.self.now of)
