use Rattle.std.proofs.Common.{[], ◌∷◌, ◌++◌}
use Rattle.flow_residual.proofs.Following.{may_all_follow}
use Rattle.flow_residual.proofs.QuestionLemmas.{each_comes_next, in_words}
use Rattle.flow_residual.proofs.residual.Residual.legal_take.Goals as goal

pub returns-clause-follow : goal.returns-clause-follow
returns-clause-follow c w s of = in_words c.takes_among.result _ _ c.takes_among.ensures (may_all_follow w s c.args.self.now of (c.args.claims.now ++ c.args.leaf ∷ []))

pub returns-clause-next : goal.returns-clause-next
returns-clause-next c told = each_comes_next c.args.self.now (c.args.claims.now ++ c.args.leaf ∷ []) (c.takes_among.ensures.0 told)
