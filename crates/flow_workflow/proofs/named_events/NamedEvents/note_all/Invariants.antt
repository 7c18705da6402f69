use Rattle.std.proofs.Common.{take}
use Rattle.flow_workflow.specs.NamedEvents.{Notes}
use Rattle.flow_workflow.proofs.named_events.NamedEvents.note_all.Given as goal

abbrev pub invariant-loop-event : goal.invariant-loop-event
invariant-loop-event l = Notes (take l.event-index l.events) l.initial.self l.self
