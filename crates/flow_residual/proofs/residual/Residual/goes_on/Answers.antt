use Rattle.flow_residual.proofs.QuestionLemmas.{where_live}
use Rattle.flow_residual.proofs.residual.Residual.goes_on.Goals as goal

pub returns-then-follows : goal.returns-then-follows
returns-then-follows c o bans at told = where_live c.is_spared.result _ _ _ ((c.follows.ensures o at).0 c.if-follows.true) (c.is_spared.ensures o bans at told) (λ h. h, λ h. h)
