use Rattle.flow_reader.proofs.Ended.{no_name}
use Rattle.flow_reader.proofs.scripts.ScriptParts.step_event.Goals as goal

pub returns-in_ok-event-in-Name : goal.returns-in_ok-event-in-Name
returns-in_ok-event-in-Name c = rw (c.in-NameNeeded.is, c.in-Name.is, c.in_ok-event-in-Name.ensures)

pub returns-in_default : goal.returns-in_default
returns-in_default c = rw c.in-NameNeeded.is (no_name _ c.args.symbol c.in_default.not-Name)

pub returns-in-AfterNote : goal.returns-in-AfterNote
returns-in-AfterNote c = rw c.in-AfterNote.is c.join_event.ensures
