use Rattle.flow_event_log.specs.Rows.{AreNumbered}
use Rattle.flow_event_log.proofs.event_log.events_at.Given as goal

abbrev pub invariant-loop-place : goal.invariant-loop-place
invariant-loop-place l = AreNumbered l.cases l.activities l.found.items
