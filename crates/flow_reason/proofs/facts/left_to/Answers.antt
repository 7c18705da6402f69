use Rattle.std.proofs.Common.{◌<◌, ◌+◌, ◌∙◌, length, ap, subst, sym, true≢false, arith}
use Rattle.flow_model.specs.Verdict.{AreJust}
use Rattle.flow_core.specs.Run.{schema}
use Rattle.flow_reason.specs.Facts.{IsLeftTo}
use Rattle.flow_core.proofs.RisingLists.{Below, one_found, one_passed, all_found}
use Rattle.flow_reason.proofs.Members.{labelled_within}
use Rattle.flow_reason.proofs.facts.left_to.Goals.{then-is_left_to+in_ok-push, else-is_left_to}
use Rattle.flow_reason.proofs.facts.left_to.Goals as goal

pub loop-leaf-preserved : goal.loop-leaf-preserved
loop-leaf-preserved c =
    let P = IsLeftTo c.args.core.now c.args.fact c.args.wanted in
    let just = c.loop-leaf.invariant in
    elim c.if-is_left_to.branch [
      | then-is_left_to+in_ok-push w ↦ subst (AreJust (Below P (c.loop-leaf.leaf + 1))) (sym (ap (λ v. v.items) w.left-is ∙ w.in_ok-push.ensures.items))
          (one_found P c.loop-leaf.leaf c.loop-leaf.left.items just (c.is_left_to.ensures.0 w.if-is_left_to.true))
      | else-is_left_to w ↦ subst (AreJust (Below P (c.loop-leaf.leaf + 1))) (sym (ap (λ v. v.items) w.left-is))
          (one_passed P c.loop-leaf.leaf c.loop-leaf.left.items just (λ has. true≢false (sym (c.is_left_to.ensures.1 has) ∙ w.if-is_left_to.false)))
    ]

pub returns : goal.returns
returns c =
    let r = c.args.core.now in
    let P = IsLeftTo r c.args.fact c.args.wanted in
    let count = c.leaves-leaf-end.ensures.count in
    let past = c.loop-leaf-test.false in
    all_found P c.loop-leaf.leaf c.loop-leaf.left.items c.loop-leaf.invariant
    (λ n has. let below : n < length (schema r).labels = labelled_within (schema r).labels n _ has.0 in omega arith)
