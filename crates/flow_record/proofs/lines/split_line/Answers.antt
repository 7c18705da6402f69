use Rattle.flow_record.proofs.LineLemmas.{split_at_feed, unsplit}
use Rattle.flow_record.proofs.lines.split_line.Goals as goal

pub returns-in-Some-clause-lines : goal.returns-in-Some-clause-lines
returns-in-Some-clause-lines c = (split_at_feed c.args.text.now c.in-Some.line.now c.in-Some.more.now c.without_return.result.now c.in-Some.ensures c.without_return.ensures).0

pub returns-in-Some-clause-shorter : goal.returns-in-Some-clause-shorter
returns-in-Some-clause-shorter c = (split_at_feed c.args.text.now c.in-Some.line.now c.in-Some.more.now c.without_return.result.now c.in-Some.ensures c.without_return.ensures).1

pub returns-in-None-clause-lines : goal.returns-in-None-clause-lines
returns-in-None-clause-lines c = unsplit c.args.text.now c.requires c.in-None.ensures
