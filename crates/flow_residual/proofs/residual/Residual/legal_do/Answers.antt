use Rattle.flow_residual.proofs.Following.{may_follow_first}
use Rattle.flow_residual.proofs.QuestionLemmas.{first_comes_next, comes_alone, in_words}
use Rattle.flow_residual.proofs.residual.Residual.legal_do.Goals as goal

pub returns-clause-first : goal.returns-clause-first
returns-clause-first c w s of = in_words c.takes_before.result _ _ c.takes_before.ensures (may_follow_first w s c.args.self.now of c.args.leaf c.args.claims.now)

pub returns-clause-next : goal.returns-clause-next
returns-clause-next c told = first_comes_next c.args.self.now c.args.leaf c.args.claims.now (c.takes_before.ensures.0 told)

pub returns-clause-alone : goal.returns-clause-alone
returns-clause-alone c none = in_words c.takes_before.result _ _ c.takes_before.ensures (comes_alone c.args.self.now c.args.leaf c.args.claims.now none)
