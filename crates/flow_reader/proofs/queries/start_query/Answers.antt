use Rattle.flow_reader.proofs.Ended.{no_query}
use Rattle.flow_reader.proofs.queries.start_query.Goals as goal

pub returns-in_default : goal.returns-in_default
returns-in_default c = no_query c.args.symbol c.in_default.not-Holds c.in_default.not-Redundant
