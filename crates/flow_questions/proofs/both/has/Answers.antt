use Rattle.std.proofs.Common.{sym, true≢false}
use Rattle.flow_questions.proofs.StaffLemmas.{has_just, none_has}
use Rattle.flow_questions.proofs.both.has.Goals as goal

pub returns-in-Some : goal.returns-in-Some
returns-in-Some c = has_just c.args.run.now.desk c.core.result.now c.args.event c.in-Some.taker c.args.user c.core.ensures.run c.in-Some.ensures

pub returns-in-None : goal.returns-in-None
returns-in-None c = (
  λ no. absurd (true≢false (sym no)),
  λ has. absurd (none_has c.args.run.now.desk c.core.result.now c.args.event c.args.user c.core.ensures.run c.in-None.ensures has),
)
