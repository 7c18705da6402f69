use Rattle.std.proofs.Common.{Some, ap}
use Rattle.flow_grammar.specs.Machine as machine
use Rattle.flow_reader.proofs.scripts.ScriptParts.after_flow.Goals as goal

pub returns-in-Reading : goal.returns-in-Reading
returns-in-Reading c = rw c.in-Reading.is

pub returns-in_ok-declare-in-Whole : goal.returns-in_ok-declare-in-Whole
returns-in_ok-declare-in-Whole c = rw c.in-Whole.is (ap (λ ds. Some (machine.declaration_needed ds)) c.in_ok-declare-in-Whole.ensures)
