use Rattle.std.proofs.Common.{Some, ap, ◌∙◌}
use Rattle.flow_grammar.specs.Machine as machine
use Rattle.flow_reader.proofs.Ended.{failing_ended}
use Rattle.flow_reader.proofs.scripts.ScriptParts.count_failures.Goals as goal

pub returns-in_ok-declare-in_default : goal.returns-in_ok-declare-in_default
returns-in_ok-declare-in_default c = c.join_event.ensures ∙ failing_ended _ _ c.args.event c.args.symbol c.in_default.not-Number c.in_ok-declare-in_default.ensures

pub returns-in_ok-declare-in-Number : goal.returns-in_ok-declare-in-Number
returns-in_ok-declare-in-Number c = rw c.in-Number.is (ap (λ ds. Some (machine.after_noted ds)) c.in_ok-declare-in-Number.ensures)
