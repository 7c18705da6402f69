use Rattle.std.proofs.Common.{Global, Vec, sym, ap, ◌∙◌}
use Rattle.std.proofs.lemmas.List.{take_all}
use Rattle.flow_model.specs.Ways.{ways}
use Rattle.flow_rules.specs.declared.order_set.OrderSet.{OrderSet}
use Rattle.flow_rules.specs.EventLeaves.{leaf_in}
use Rattle.flow_rules.specs.Narrowed.{open_ways}
use Rattle.flow_rules.specs.Normal.{normal_of}
use Rattle.flow_rules.specs.WayLists.{both_ways, ways_of_sets}
use Rattle.flow_rules.proofs.NarrowLemmas.{open_more, closed_more}
use Rattle.flow_rules.proofs.narrowed.list_open.Goals as goal
use Rattle.flow_rules.proofs.narrowed.list_open.Goals.{then-has_lane+in_ok-ways-2, else-has_lane}

pub loop-rule-preserved : goal.loop-rule-preserved
loop-rule-preserved c =
    let leaf = leaf_in c.args.events.now in
    let rules = c.args.rules.now in
    let i = c.loop-rule.rule-index in
    let rule = c.rule-item.result in
    elim c.if-has_lane.branch [
      | then-has_lane+in_ok-ways-2 w ↦
          ap (λ (v : Vec OrderSet Global). ways_of_sets v.items) w.ways-is ∙ w.in_ok-ways-2.ensures
          ∙ ap (λ ws. both_ways ws (ways (normal_of rule.rule) leaf)) c.loop-rule.invariant
          ∙ sym (open_more c.args.lane leaf rules i rule c.loop-rule-test.true c.rule-item.is (sym c.has_lane.ensures ∙ w.if-has_lane.true))
      | else-has_lane w ↦
          ap (λ (v : Vec OrderSet Global). ways_of_sets v.items) w.ways-is ∙ c.loop-rule.invariant
          ∙ sym (closed_more c.args.lane leaf rules i rule c.loop-rule-test.true c.rule-item.is (sym c.has_lane.ensures ∙ w.if-has_lane.false))
    ]

pub returns : goal.returns
returns c = c.loop-rule.invariant ∙ ap (open_ways c.args.lane (leaf_in c.args.events.now)) (take_all c.loop-rule.rule-index c.args.rules.now c.loop-rule-test.false)
