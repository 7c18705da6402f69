use Rattle.std.proofs.Common.{◌≡◌, drop}
use Rattle.std.specs.List.{find}
use Rattle.flow_fault.specs.Near.{is_near}
use Rattle.flow_questions_cli.proofs.names.near_event.Given as goal

abbrev pub invariant-loop-event : goal.invariant-loop-event
invariant-loop-event l = find (is_near l.name) l.events ≡ find (is_near l.name) (drop l.event-index l.events)
