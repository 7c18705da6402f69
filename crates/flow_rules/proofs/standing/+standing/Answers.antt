use Rattle.std.proofs.Common.{◌∙◌, sym, ap, subst}
use Rattle.std.proofs.lemmas.List.{take_all}
use Rattle.flow_model.specs.Ways.{ways}
use Rattle.flow_rules.specs.Normal.{normal_of}
use Rattle.flow_rules.specs.Standing.{Stands}
use Rattle.flow_rules.specs.WayLists.{ways_of_parts}
use Rattle.flow_rules.proofs.NormalViews.{normal_of-Event, normal_of-Order, ways_at_parts}
use Rattle.flow_rules.proofs.StandingLemmas.{stand_as, stand_more}
use Rattle.flow_rules.proofs.standing.+standing.Goals as goal

pub parts_standing-loop-part-preserved : goal.parts_standing-loop-part-preserved
parts_standing-loop-part-preserved t c =
    stand_more c.args.connective c.args.lanes.now c.args.parts.now c.loop-part.part-index c.part-item.result c.loop-part-test.true c.part-item.is
    c.loop-part.standing c.standing_of.result c.with-standing.result c.with-standing.ensures.one c.with-standing.ensures.both c.loop-part.invariant c.standing_of.ensures

pub parts_standing-returns : goal.parts_standing-returns
parts_standing-returns t c = λ lane leaf within shows.
    stand_as _ lane _ _ (ap (ways_of_parts c.args.connective leaf) (take_all c.loop-part.part-index c.args.parts.now c.loop-part-test.false))
    (c.loop-part.invariant lane leaf within shows)

pub standing_of-returns-in-Event : goal.standing_of-returns-in-Event
standing_of-returns-in-Event t c =
    subst (λ n. Stands c.event.result c.args.lanes.now (ways n)) (sym (ap normal_of c.in-Event.is ∙ normal_of-Event c.in-Event.wanted c.in-Event.number)) c.event.ensures

pub standing_of-returns-in-Order : goal.standing_of-returns-in-Order
standing_of-returns-in-Order t c =
    subst (λ n. Stands c.order.result c.args.lanes.now (ways n)) (sym (ap normal_of c.in-Order.is ∙ normal_of-Order c.in-Order.wanted c.in-Order.first c.in-Order.second))
    c.order.ensures

pub standing_of-returns-in-Parts : goal.standing_of-returns-in-Parts
standing_of-returns-in-Parts t c = λ lane leaf within shows.
    stand_as _ lane _ _ (ap (ways_of_parts c.in-Parts.connective leaf) c.deref.ensures.value ∙ ways_at_parts leaf c.args.rule.now c.in-Parts.connective c.in-Parts.parts c.in-Parts.is)
    (c.parts_standing.ensures lane leaf within shows)
