use Rattle.std.proofs.Common.{map, take}
use Rattle.flow_event_log.specs.Grouped.{entry_of}
use Rattle.flow_event_log.specs.Ends.{AreEnds}
use Rattle.flow_event_log.proofs.grouping.ends_of.Given as goal

abbrev pub invariant-loop-event : goal.invariant-loop-event
invariant-loop-event l = AreEnds l.cases (map (entry_of l.events_of) (take l.event-index l.events)) l.tree.steps.items l.ends.items
