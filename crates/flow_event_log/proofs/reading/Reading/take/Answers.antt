use Rattle.csv.specs.Records.{fields_of}
use Rattle.flow_event_log.proofs.TakenLemmas.{answered, answered_after, bad_names}
use Rattle.flow_event_log.proofs.reading.Reading.take.Goals as goal

pub returns-in_default : goal.returns-in_default
returns-in_default c =
    answered c.args.self.now c.leave_out.new.self (fields_of c.args.record.now) _ c.leave_out.result c.leave_out.ensures c.requires
    (λ row is. c.in_default.ensures.none row.0 row.1 is.0)

pub returns-in-Err : goal.returns-in-Err
returns-in-Err c =
    let row = c.in-Some.row in
    answered_after c.args.self.now c.leave_out-in-Err.new.self (fields_of c.args.record.now) _ c.leave_out-in-Err.result c.note_row.new.log (rw c.in-Err.is at c.in_ok-case.ensures.kept)
    c.leave_out-in-Err.ensures c.requires
    (bad_names c.args.self.now.columns (fields_of c.args.record.now) row.case.now row.activity.now c.in-Some.ensures.some (rw c.in-Err.is at c.in_ok-case.ensures.bad))
