use Rattle.std.proofs.Common.{◌≡◌, ◌∙◌, ◌+◌, ℕ, not, take, sym, ap, subst, Vec, Global}
use Rattle.std.proofs.lemmas.Result.{IfOk-weaker}
use Rattle.std.proofs.lemmas.List.{take_all}
use Rattle.flow_rules.specs.declared.normal.Nnf.{Nnf}
use Rattle.flow_rules.specs.Standing.{has_lane, lanes_where}
use Rattle.flow_rules.specs.WayLists.{decider, ways_of_parts}
use Rattle.flow_rules.proofs.NarrowLemmas.{KeepsWays, keeps_with, keeps_without}
use Rattle.flow_rules.proofs.NormalViews.{ways_at_parts}
use Rattle.flow_rules.proofs.StandingLemmas.{stand_as, stand_more}
use Rattle.flow_rules.proofs.narrow.+narrowing.Goals as goal
use Rattle.flow_rules.proofs.narrow.+narrowing.Goals.{narrow_parts-then-covers, narrow_parts-else-covers+in_ok-push}

pub narrow_parts-loop-part-preserved : goal.narrow_parts-loop-part-preserved
narrow_parts-loop-part-preserved t c =
    let j = c.args.connective in
    let parts = c.args.parts.now in
    let lanes = c.args.lanes.now in
    let wanted = c.args.wanted in
    let i = c.loop-part.part-index in
    let part = c.part-item.result in
    let narrow = c.in_ok-narrow.narrow in
    let stands = c.in_ok-narrow.ensures.standing in (
      stand_more j lanes parts i part c.loop-part-test.true c.part-item.is c.loop-part.standing narrow.standing c.with-standing.result
          c.with-standing.ensures.one c.with-standing.ensures.both c.loop-part.invariant.0 stands,
      elim c.if-covers.branch [
        | narrow_parts-then-covers w ↦
            let same : c.lanes_where.result ≡ lanes_where narrow.standing (not (decider j)) =
            c.lanes_where.ensures ∙ ap (λ b. lanes_where narrow.standing (not b)) c.decides-idle.ensures in
            subst (λ (k : Vec Nnf Global). KeepsWays j wanted lanes k.items (take (i + 1) parts)) (sym w.kept-is)
            (keeps_without j wanted lanes parts i part c.loop-part-test.true c.part-item.is c.loop-part.kept.items narrow.standing stands
            (λ lane within has. ap (λ (word : ℕ). has_lane word lane) (sym same) ∙ c.covers.ensures.0 w.if-covers.true lane within has) c.loop-part.invariant.1)
        | narrow_parts-else-covers+in_ok-push w ↦
            keeps_with j wanted lanes parts i part c.loop-part-test.true c.part-item.is c.loop-part.kept.items c.if-covers.kept.items narrow.rule
            (ap (λ (k : Vec Nnf Global). k.items) w.kept-is ∙ w.in_ok-push.ensures.items) c.in_ok-narrow.ensures.ways c.loop-part.invariant.1
      ],
    )

pub narrow_parts-returns-clause-standing : goal.narrow_parts-returns-clause-standing
narrow_parts-returns-clause-standing t c = λ lane leaf within shows.
    stand_as _ lane _ _ (ap (ways_of_parts c.args.connective leaf) (take_all c.loop-part.part-index c.args.parts.now c.loop-part-test.false))
    (c.loop-part.invariant.0 lane leaf within shows)

pub narrow_parts-returns-clause-ways : goal.narrow_parts-returns-clause-ways
narrow_parts-returns-clause-ways t c = λ lane leaf within shows has.
    c.kept_rule.ensures leaf ∙ c.loop-part.invariant.1 lane leaf within shows has
    ∙ ap (ways_of_parts c.args.connective leaf) (take_all c.loop-part.part-index c.args.parts.now c.loop-part-test.false)

pub narrow_rule-returns-in-Parts-clause-standing : goal.narrow_rule-returns-in-Parts-clause-standing
narrow_rule-returns-in-Parts-clause-standing t c =
    IfOk-weaker c.narrow_parts.result _ _
    (λ narrow stands lane leaf within shows. stand_as narrow.standing lane _ _
    (ap (ways_of_parts c.in-Parts.connective leaf) c.deref.ensures.value ∙ ways_at_parts leaf c.args.rule.now c.in-Parts.connective c.in-Parts.parts c.in-Parts.is)
    (stands lane leaf within shows)) c.narrow_parts.ensures.standing

pub narrow_rule-returns-in-Parts-clause-ways : goal.narrow_rule-returns-in-Parts-clause-ways
narrow_rule-returns-in-Parts-clause-ways t c =
    IfOk-weaker c.narrow_parts.result _ _
    (λ narrow has lane leaf within shows wanted. has lane leaf within shows wanted
    ∙ ap (ways_of_parts c.in-Parts.connective leaf) c.deref.ensures.value ∙ ways_at_parts leaf c.args.rule.now c.in-Parts.connective c.in-Parts.parts c.in-Parts.is)
    c.narrow_parts.ensures.ways
