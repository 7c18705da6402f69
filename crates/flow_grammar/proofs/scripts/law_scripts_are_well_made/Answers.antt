use Rattle.flow_grammar.proofs.MadeTexts.{scripts_are_well_made}
use Rattle.flow_grammar.proofs.scripts.law_scripts_are_well_made.Goals as goal

pub returns : goal.returns
returns c = scripts_are_well_made
