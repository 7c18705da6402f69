use Rattle.std.proofs.Common.{◌≡◌, ◌==◌, ◌||◌, ◌∙◌, Bool, true, false, take, ap, sym}
use Rattle.std.proofs.Math.Bool.{beq}
use Rattle.flow_model.specs.Ways.{is_free, ways}
use Rattle.flow_model.specs.declared.operators.Connective.{Connective}
use Rattle.flow_model.specs.declared.operators.Connective.TheVariants.{And, Or}
use Rattle.flow_rules.specs.declared.normal.Nnf.{Parts}
use Rattle.flow_rules.specs.declared.way_count.WayCount.{WayCount}
use Rattle.flow_rules.specs.WayCount.{count_of, counts_beside, counts_of_both, is_free_count}
use Rattle.flow_rules.specs.Normal.{normal_of}
use Rattle.flow_rules.specs.WayLists.{decided, is_none, ways_of_parts}
use Rattle.flow_rules.proofs.WayCountLemmas.{count_beside, count_both, free_count, none_left}
use Rattle.flow_rules.proofs.NormalViews.{event_met, ways_at_event, ways_at_order, ways_at_parts}
use Rattle.flow_rules.proofs.WayListLemmas.{free_is, free_of_either, none_is, part_decides, parts_more}
use Rattle.flow_rules.proofs.way_count.+counting.Goals as goal

pub count_all-loop-part-preserved : goal.count_all-loop-part-preserved
count_all-loop-part-preserved g t c = λ leaf tells.
    let parts = c.args.parts.now in
    let i = c.loop-part.part-index in
    c.both-count.ensures ∙ (λ k. counts_of_both (c.loop-part.invariant leaf tells k) (c.count_ways-more.ensures leaf tells k))
    ∙ sym (ap count_of (parts_more And leaf parts i c.part-item.result c.loop-part-test.true c.part-item.is)
    ∙ count_both (ways_of_parts And leaf (take i parts)) (ways (normal_of c.part-item.result) leaf))

pub count_all-returns-then-more-eq0 : goal.count_all-returns-then-more-eq0
count_all-returns-then-more-eq0 g t c = λ leaf tells.
    let these = ways (normal_of c.part-item.result) leaf in
    let none : is_none these ≡ true =
    sym (none_left these) ∙ ap (λ (count : WayCount). count.ways == 0) (sym (c.count_ways-more.ensures leaf tells)) ∙ ap (λ n. n == 0) c.if-more-eq0.true in
    sym (ap count_of (part_decides And leaf c.args.parts.now c.loop-part.part-index c.part-item.result c.loop-part-test.true c.part-item.is (none_is these none)))

pub count_any-loop-part-preserved : goal.count_any-loop-part-preserved
count_any-loop-part-preserved g t c = λ leaf tells.
    let parts = c.args.parts.now in
    let i = c.loop-part.part-index in
    let so_far = ways_of_parts Or leaf (take i parts) in
    let these = ways (normal_of c.part-item.result) leaf in
    let more = parts_more Or leaf parts i c.part-item.result c.loop-part-test.true c.part-item.is in
    let before = c.loop-part.invariant leaf tells in
    let not_free : is_free these ≡ false =
    sym (free_count these) ∙ ap is_free_count (sym (c.count_ways-more.ensures leaf tells)) ∙ sym c.is_free.ensures ∙ c.if-is_free.false in (
      c.beside-count.ensures ∙ (λ k. counts_beside (before.0 k) (c.count_ways-more.ensures leaf tells k))
          ∙ sym (ap count_of more ∙ count_beside so_far these before.1 not_free),
      ap is_free more ∙ free_of_either so_far these ∙ (λ k. before.1 k || not_free k),
    )

pub count_any-returns-then-is_free : goal.count_any-returns-then-is_free
count_any-returns-then-is_free g t c = λ leaf tells.
    let these = ways (normal_of c.part-item.result) leaf in
    let free : is_free these ≡ true =
    sym (free_count these) ∙ ap is_free_count (sym (c.count_ways-more.ensures leaf tells)) ∙ sym c.is_free.ensures ∙ c.if-is_free.true in
    sym (ap count_of (part_decides Or leaf c.args.parts.now c.loop-part.part-index c.part-item.result c.loop-part-test.true c.part-item.is (free_is these free)))

pub count_ways-returns-in-Event : goal.count_ways-returns-in-Event
count_ways-returns-in-Event g t c = λ leaf tells.
    c.decided.ensures
    ∙ ap count_of (ap (λ (b : Bool). decided (beq b c.in-Event.wanted)) (c.has.ensures ∙ tells c.in-Event.event)
    ∙ event_met leaf c.in-Event.wanted c.in-Event.event ∙ ways_at_event leaf c.args.rule.now c.in-Event.wanted c.in-Event.event c.in-Event.is)

pub count_ways-returns-in-Order : goal.count_ways-returns-in-Order
count_ways-returns-in-Order g t c = λ leaf tells.
    c.order.ensures leaf tells ∙ ap count_of (ways_at_order leaf c.args.rule.now c.in-Order.wanted c.in-Order.first c.in-Order.second c.in-Order.is)

pub count_ways-returns-in-And : goal.count_ways-returns-in-And
count_ways-returns-in-And g t c = λ leaf tells.
    let parts = c.in-Parts.parts in
    c.count_all.ensures leaf tells
    ∙ ap count_of (ap (ways_of_parts And leaf) c.deref.ensures.value ∙ ways_at_parts leaf c.args.rule.now And parts (c.in-Parts.is ∙ ap (λ (j : Connective). Parts j parts) c.in-And.is))

pub count_ways-returns-in-Or : goal.count_ways-returns-in-Or
count_ways-returns-in-Or g t c = λ leaf tells.
    let parts = c.in-Parts.parts in
    c.count_any.ensures leaf tells
    ∙ ap count_of (ap (ways_of_parts Or leaf) c.deref-in-Or.ensures.value ∙ ways_at_parts leaf c.args.rule.now Or parts (c.in-Parts.is ∙ ap (λ (j : Connective). Parts j parts) c.in-Or.is))
