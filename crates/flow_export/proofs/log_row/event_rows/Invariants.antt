use Rattle.std.proofs.Common.{◌≡◌, map, take}
use Rattle.flow_export.specs.Rows.{said, row_at}
use Rattle.flow_export.proofs.log_row.event_rows.Given as goal

abbrev pub invariant-loop-event : goal.invariant-loop-event
invariant-loop-event l = map said l.rows.items ≡ map (row_at l.workflow l.case l.tellers) (take l.event-index l.events)
