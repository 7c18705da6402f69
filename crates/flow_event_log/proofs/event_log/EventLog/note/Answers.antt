use Rattle.std.proofs.Common.{length}
use Rattle.std.proofs.lemmas.Option.{slice_get_within}
use Rattle.flow_event_log.proofs.RowLemmas.{keeps, numbered_more, numbered_pushed, rows_more}
use Rattle.flow_event_log.proofs.event_log.EventLog.note.Goals as goal

pub invariant_of-self-2 : goal.invariant_of-self-2
invariant_of-self-2 c =
    let old = c.args.self.now in
    let of_cases = keeps old.cases c.args.case.now c.case_number.new.names c.in_ok-case.ensures.names in
    let of_activities = keeps old.activities c.args.activity.now c.number_of.new.self c.in_ok-activity.ensures.names in
    record {
      numbered = numbered_pushed (length c.case_number.new.names) (length c.number_of.new.self) old.events.items c.push.new.self.items _ _ c.push.ensures.items
          (numbered_more (length old.cases) (length old.activities) (length c.case_number.new.names) (length c.number_of.new.self) old.events.items
          of_cases.as_many of_activities.as_many old.numbered)
          (slice_get_within c.case_number.new.names c.in_ok-case.case c.args.case.now c.in_ok-case.ensures.number)
          (slice_get_within c.number_of.new.self c.in_ok-activity.activity c.args.activity.now c.in_ok-activity.ensures.number);
    }

pub returns-clause-rows : goal.returns-clause-rows
returns-clause-rows c =
    let old = c.args.self.now in
    rows_more old.cases old.activities c.case_number.new.names c.number_of.new.self old.events.items c.push.new.self.items _ c.args.case.now c.args.activity.now
    (keeps old.cases c.args.case.now c.case_number.new.names c.in_ok-case.ensures.names)
    (keeps old.activities c.args.activity.now c.number_of.new.self c.in_ok-activity.ensures.names)
    old.numbered c.in_ok-push.ensures.items c.in_ok-case.ensures.number c.in_ok-activity.ensures.number
