use Rattle.flow_cli.proofs.Outcomes.{texts_written}
use Rattle.flow_cli.proofs.call.serve.Goals as goal

pub returns-in-Help-clause-outcome : goal.returns-in-Help-clause-outcome
returns-in-Help-clause-outcome g c = rw c.in-Help.is (texts_written _ _ _ c.write_text.result c.write_text.ensures)

pub returns-in-Version-clause-outcome : goal.returns-in-Version-clause-outcome
returns-in-Version-clause-outcome g c = rw c.in-Version.is (texts_written _ _ _ c.write_text-in-Version.result c.write_text-in-Version.ensures)

pub returns-in-Answer-clause-outcome : goal.returns-in-Answer-clause-outcome
returns-in-Answer-clause-outcome g c = rw c.in-Answer.is c.answer.ensures.outcome
