use Rattle.std.proofs.Common.{◌∙◌, Bool, None, if◌then◌else◌, ap, sym}
use Rattle.std.specs.Option.{is_some}
use Rattle.std.proofs.lemmas.Bool.{eq-eqb, ne_eqb}
use Rattle.flow_rules.specs.WayLists.{pair_of}
use Rattle.flow_rules.proofs.StandingLemmas.{both_there, lane_none}
use Rattle.flow_rules.proofs.standing.lanes_of_both.Goals as goal

pub returns-then-first-second : goal.returns-then-first-second
returns-then-first-second c = λ lane leaf wanted shows.
    lane_none lane
    ∙ sym (ap (λ (same : Bool). is_some (if same then None else pair_of wanted (leaf c.args.first) (leaf c.args.second))) (eq-eqb c.args.first c.args.second c.if-first-second.true))

pub returns : goal.returns
returns c = λ lane leaf wanted shows.
    both_there c.args.lanes.now c.args.first c.args.second c.lanes_of.result c.lanes_of-2.result lane leaf wanted c.lanes_of.ensures c.lanes_of-2.ensures
    (ne_eqb c.args.first c.args.second c.if-first-second.false) shows
