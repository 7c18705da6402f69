use Rattle.flow_grammar.proofs.MadeTexts.{queries_are_well_made}
use Rattle.flow_grammar.proofs.queries.law_queries_are_well_made.Goals as goal

pub returns : goal.returns
returns c = queries_are_well_made
