use Rattle.flow_record.proofs.LineLemmas.{with_return, with_no_return}
use Rattle.flow_record.proofs.lines.without_return.Goals as goal

pub returns-then-last-eq13 : goal.returns-then-last-eq13
returns-then-last-eq13 c = with_return _ _ _ c.in-Some.ensures.cases.0 c.if-last-eq13.true

pub returns-else-last-eq13 : goal.returns-else-last-eq13
returns-else-last-eq13 c = with_no_return _ _ _ c.in-Some.ensures.cases.0 c.if-last-eq13.false
