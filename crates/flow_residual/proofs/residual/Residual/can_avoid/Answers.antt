use Rattle.flow_residual.proofs.Following.{is_avoidable}
use Rattle.flow_residual.proofs.QuestionLemmas.{in_words}
use Rattle.flow_residual.proofs.residual.Residual.can_avoid.Goals as goal

pub returns : goal.returns
returns c w s of = in_words c.goes_without.result _ _ c.goes_without.ensures (is_avoidable w s c.args.self.now of c.args.leaf)
