use Rattle.std.proofs.Common.{Some, ap, ◌∙◌}
use Rattle.flow_grammar.specs.Machine as machine
use Rattle.flow_reader.proofs.Ended.{event_ended}
use Rattle.flow_reader.proofs.scripts.ScriptParts.note_event.Goals as goal

pub returns-in_default-symbol : goal.returns-in_default-symbol
returns-in_default-symbol c = c.join_event.ensures ∙ event_ended _ _ c.args.event c.args.symbol c.in_default.not-Fail c.in_default-symbol.not-Done c.in_ok-declare.ensures

pub returns-in-Done : goal.returns-in-Done
returns-in-Done c = rw c.in-Done.is (ap (λ ds. Some (machine.after_noted ds)) c.in_ok-declare.ensures)
