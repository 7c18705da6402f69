use Rattle.flow_gen.proofs.Expanded.{leaves_are_counted, leaves_are_events, labels_never_wait, notes_are_done}
use Rattle.flow_gen.proofs.workflows.law_generated_leaves_are_events.Goals as goal

pub returns : goal.returns
returns c = record { counted = leaves_are_counted; events = leaves_are_events; never_wait = labels_never_wait; notes = notes_are_done }
