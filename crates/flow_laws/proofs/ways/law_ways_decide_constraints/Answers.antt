use Rattle.flow_laws.proofs.OptionsLemmas.{constraint_by_ways}
use Rattle.flow_laws.proofs.ways.law_ways_decide_constraints.Goals as goal

pub returns : goal.returns
returns g = λ c labels t ls distinct_events distinct same.
    constraint_by_ways c labels t ls (record { distinct = distinct_events; same = same })
