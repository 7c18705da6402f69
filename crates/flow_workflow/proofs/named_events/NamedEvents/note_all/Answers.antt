use Rattle.std.proofs.Common.{rules}
use Rattle.flow_workflow.proofs.NamedLemmas.{event_noted}
use Rattle.flow_workflow.proofs.named_events.NamedEvents.note_all.Goals as goal

pub loop-event-preserved : goal.loop-event-preserved
loop-event-preserved c =
    event_noted c.args.events.now c.loop-event.event-index _ c.args.self.now c.loop-event.self c.note.new.self c.loop-event-test.true (search rules)
    c.loop-event.invariant c.in_ok-note.ensures
