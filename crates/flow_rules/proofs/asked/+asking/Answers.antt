use Rattle.std.proofs.Common.{◌≡◌, ◌∙◌, ◌+◌, Bool, true, false, not, take, refl, sym, ap, subst, true≢false, List, Vec, Global}
use Rattle.std.proofs.Math.Bool.{beq}
use Rattle.std.specs.Cmp.{booleans_Decides}
use Rattle.std.proofs.lemmas.List.{take_all}
use Rattle.std.proofs.lemmas.Result.{IfOk-weaker}
use Rattle.flow_model.specs.Ways.{ways}
use Rattle.flow_rules.specs.declared.asked.Asked.{Asked}
use Rattle.flow_rules.specs.declared.asked.Found.{Found}
use Rattle.flow_rules.specs.declared.normal.Nnf.{Nnf}
use Rattle.flow_rules.specs.Asked.{Finds, HasKept}
use Rattle.flow_rules.specs.EventLeaves.{leaf_in}
use Rattle.flow_rules.specs.Normal.{normal_of}
use Rattle.flow_rules.specs.WayLists.{decided, decider, ways_of_pair, ways_of_parts}
use Rattle.flow_rules.proofs.AskedLemmas.{kept_idle, kept_more, kept_none}
use Rattle.flow_rules.proofs.NormalViews.{ways_at_event, ways_at_order, ways_at_parts}
use Rattle.flow_rules.proofs.WayListLemmas.{part_decides, parts_more}
use Rattle.flow_rules.proofs.asked.+asking.Goals as goal
use Rattle.flow_rules.proofs.asked.+asking.Goals.{parts_asked-in-Decided+else-met-decides, parts_asked-in-Open+in_ok-push-in-Open}

other_flag : (a b : Bool) → beq a b ≡ false → a ≡ not b
other_flag true true e = absurd (true≢false e)
other_flag true false e = refl
other_flag false true e = refl
other_flag false false e = absurd (true≢false e)

pub parts_asked-loop-part-init : goal.parts_asked-loop-part-init
parts_asked-loop-part-init t c =
    subst (λ (kept : List Asked). HasKept c.args.connective kept (decided (not (decider c.args.connective)))) (sym c.new-kept.ensures.items) (kept_none c.args.connective)

pub asked_of-returns-in-Event : goal.asked_of-returns-in-Event
asked_of-returns-in-Event t c =
    sym (c.meets.ensures ∙ ways_at_event (leaf_in c.args.events.now) c.args.rule.now c.in-Event.wanted c.in-Event.event c.in-Event.is)

pub asked_of-returns-in-Order : goal.asked_of-returns-in-Order
asked_of-returns-in-Order t c =
    let leaf = leaf_in c.args.events.now in
    subst (Finds c.order.result)
    (ap (ways_of_pair c.in-Order.wanted) c.pair.ensures ∙ ways_at_order leaf c.args.rule.now c.in-Order.wanted c.in-Order.first c.in-Order.second c.in-Order.is) c.order.ensures

pub asked_of-returns-in-Parts : goal.asked_of-returns-in-Parts
asked_of-returns-in-Parts t c =
    let leaf = leaf_in c.args.events.now in
    IfOk-weaker c.parts_asked.result _ _
    (λ found. subst (Finds found) (ap (ways_of_parts c.in-Parts.connective leaf) c.deref.ensures.value ∙ ways_at_parts leaf c.args.rule.now c.in-Parts.connective c.in-Parts.parts c.in-Parts.is))
    c.parts_asked.ensures

pub parts_asked-returns-then-met-decides : goal.parts_asked-returns-then-met-decides
parts_asked-returns-then-met-decides t c =
    let j = c.args.connective in
    let leaf = leaf_in c.args.events.now in
    let met = (booleans_Decides c.in-Decided.met c.decides.result).0 c.if-met-decides.true ∙ c.decides.ensures in
    part_decides j leaf c.args.parts.now c.loop-part.part-index c.part-item.result c.loop-part-test.true c.part-item.is
    (subst (λ (o : Found). Finds o (ways (normal_of c.part-item.result) leaf)) c.in-Decided.is c.in_ok-met.ensures ∙ ap decided met) ∙ ap decided (sym met)

pub parts_asked-loop-part-preserved : goal.parts_asked-loop-part-preserved
parts_asked-loop-part-preserved t c =
    let j = c.args.connective in
    let leaf = leaf_in c.args.events.now in
    let these = ways (normal_of c.part-item.result) leaf in
    let finds : Found → Type 0 = λ (o : Found). Finds o these in
    let kept = c.loop-part.kept.items in
    let Kept_so : Vec Asked Global → Type 0 = λ (k : Vec Asked Global). HasKept j k.items (ways_of_parts j leaf (take (c.loop-part.part-index + 1) c.args.parts.now)) in
    let more = parts_more j leaf c.args.parts.now c.loop-part.part-index c.part-item.result c.loop-part-test.true c.part-item.is in
    elim c.match-branch-2.branch [
      | parts_asked-in-Decided+else-met-decides w ↦
          subst Kept_so (sym w.kept-is)
          (kept_idle j kept _ these _ more (subst finds w.in-Decided.is c.in_ok-met.ensures ∙ ap decided (other_flag w.in-Decided.met w.decides.result w.if-met-decides.false ∙ ap not w.decides.ensures))
          c.loop-part.invariant)
      | parts_asked-in-Open+in_ok-push-in-Open w ↦
          subst Kept_so (sym w.kept-is)
          (kept_more j kept _ w.in-Open.more _ these _ w.in_ok-push-in-Open.ensures.items more (subst finds w.in-Open.is c.in_ok-met.ensures) c.loop-part.invariant)
    ]

pub parts_asked-returns : goal.parts_asked-returns
parts_asked-returns t c =
    let j = c.args.connective in
    let kept = c.loop-part.kept.items in
    c.kept_asked.ensures _
    (subst (λ (parts : List Nnf). HasKept j kept (ways_of_parts j (leaf_in c.args.events.now) parts)) (take_all c.loop-part.part-index c.args.parts.now c.loop-part-test.false) c.loop-part.invariant)
