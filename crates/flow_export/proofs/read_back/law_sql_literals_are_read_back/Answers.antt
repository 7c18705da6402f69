use Rattle.flow_export.proofs.LiteralLemmas.{literals_read}
use Rattle.flow_export.proofs.read_back.law_sql_literals_are_read_back.Goals as goal

pub returns : goal.returns
returns c = literals_read
