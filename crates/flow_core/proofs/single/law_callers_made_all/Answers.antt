use Rattle.flow_core.proofs.CallerLemmas.{callers_made_all}
use Rattle.flow_core.proofs.single.law_callers_made_all.Goals as goal

pub returns : goal.returns
returns c = callers_made_all
