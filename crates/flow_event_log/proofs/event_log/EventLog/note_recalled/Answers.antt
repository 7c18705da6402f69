use Rattle.flow_event_log.proofs.RowLemmas.{itself, rows_more}
use Rattle.flow_event_log.proofs.event_log.EventLog.note_recalled.Goals as goal

pub returns-clause-rows : goal.returns-clause-rows
returns-clause-rows c =
    let old = c.args.self.now in
    rows_more old.cases old.activities old.cases old.activities old.events.items c.push.new.self.items _ c.args.case.now c.args.activity.now
    (itself old.cases) (itself old.activities) old.numbered c.in_ok-push.ensures.items c.in-Some.ensures c.in-Some-recall.ensures
