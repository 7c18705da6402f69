use Rattle.std.proofs.Common.{sym, true≢false}
use Rattle.flow_questions.proofs.StaffLemmas.{open_just, never_open}
use Rattle.flow_questions.proofs.manned.can_take.Goals as goal

pub returns-in-Ok : goal.returns-in-Ok
returns-in-Ok c = open_just c.args.run.now.desk c.core.result.now c.args.leaf c.in-Ok.found c.args.event c.core.ensures.run c.in-Ok.ensures

pub returns-in-Err : goal.returns-in-Err
returns-in-Err c = (
  λ no. absurd (true≢false (sym no)),
  λ can. absurd (never_open c.args.run.now.desk c.core.result.now c.args.leaf c.args.event _ c.core.ensures.run c.in-Err.ensures can),
)
