use Rattle.std.proofs.Common.{take, sym, ap, ◌∙◌}
use Rattle.flow_model.specs.Ways.{ways}
use Rattle.flow_rules.specs.WayCount.{count_of, counts_of_both}
use Rattle.flow_rules.specs.Narrowed.{open_ways}
use Rattle.flow_rules.specs.Normal.{normal_of}
use Rattle.flow_rules.proofs.WayCountLemmas.{count_both}
use Rattle.flow_rules.proofs.NarrowLemmas.{open_more, closed_more}
use Rattle.flow_rules.proofs.narrowed.count_open.Goals as goal
use Rattle.flow_rules.proofs.narrowed.count_open.Goals.{then-has_lane, else-has_lane}

pub loop-rule-preserved : goal.loop-rule-preserved
loop-rule-preserved c = λ leaf shows.
    let lane = c.args.one.now.lane in
    let rules = c.args.rules.now in
    let i = c.loop-rule.rule-index in
    let rule = c.rule-item.result in
    elim c.if-has_lane.branch [
      | then-has_lane w ↦
          w.count-is ∙ w.both-count.ensures ∙ (λ k. counts_of_both (c.loop-rule.invariant leaf shows k) (w.count_ways.ensures leaf shows k))
          ∙ sym (count_both (open_ways lane leaf (take i rules)) (ways (normal_of rule.rule) leaf))
          ∙ ap count_of (sym (open_more lane leaf rules i rule c.loop-rule-test.true c.rule-item.is (sym c.has_lane.ensures ∙ w.if-has_lane.true)))
      | else-has_lane w ↦
          w.count-is ∙ c.loop-rule.invariant leaf shows
          ∙ ap count_of (sym (closed_more lane leaf rules i rule c.loop-rule-test.true c.rule-item.is (sym c.has_lane.ensures ∙ w.if-has_lane.false)))
    ]
