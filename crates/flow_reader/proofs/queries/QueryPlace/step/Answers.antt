use Rattle.std.proofs.Common.{ap, ◌∙◌}
use Rattle.flow_grammar.specs.Machine as machine
use Rattle.flow_reader.proofs.Ended.{no_end, no_number}
use Rattle.flow_reader.proofs.queries.QueryPlace.step.Goals as goal

pub returns-in-QueryNeeded : goal.returns-in-QueryNeeded
returns-in-QueryNeeded c = rw c.in-QueryNeeded.is c.start_query.ensures

pub returns-in_ok-step-in-InProperty : goal.returns-in_ok-step-in-InProperty
returns-in_ok-step-in-InProperty c = rw c.in-InProperty.is (c.after_property.ensures ∙ ap machine.after_property_step c.in_ok-step-in-InProperty.ensures)

pub returns-in-Number : goal.returns-in-Number
returns-in-Number c = rw (c.in-NumberNeeded.is, c.in-Number.is)

pub returns-in_default : goal.returns-in_default
returns-in_default c = rw c.in-NumberNeeded.is (no_number c.args.symbol c.in_default.not-Number)

pub returns-in-Semicolon : goal.returns-in-Semicolon
returns-in-Semicolon c = rw (c.in-AfterNumber.is, c.in-Semicolon.is)

pub returns-in_default-symbol : goal.returns-in_default-symbol
returns-in_default-symbol c = rw c.in-AfterNumber.is (no_end _ c.args.symbol c.in_default-symbol.not-Semicolon)

pub returns-in-QueryRead : goal.returns-in-QueryRead
returns-in-QueryRead c = rw c.in-QueryRead.is
