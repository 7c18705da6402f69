use Rattle.flow_crew.proofs.TurnsLemmas.{begins_once, posteds_once, both_once}
use Rattle.flow_crew.proofs.single.law_turns_are_single.Goals as goal

pub returns : goal.returns
returns c = record { begins = begins_once; posts = posteds_once; both = both_once }
