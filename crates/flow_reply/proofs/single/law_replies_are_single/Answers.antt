use Rattle.flow_reply.proofs.OneReply.{one_shown, one_report}
use Rattle.flow_reply.proofs.single.law_replies_are_single.Goals as goal

pub returns-clause-looks : goal.returns-clause-looks
returns-clause-looks c = one_shown

pub returns-clause-reports : goal.returns-clause-reports
returns-clause-reports c = one_report
