use Rattle.std.proofs.Common.{◌<◌, ◌+◌, ◌∙◌, length, ap, subst, sym, true≢false, arith}
use Rattle.flow_model.specs.Verdict.{AreJust}
use Rattle.flow_core.specs.Run.{schema}
use Rattle.flow_core.proofs.RisingLists.{Below, one_found, one_passed, all_found}
use Rattle.flow_reason.specs.GivenUp.{IsBannedLeaf}
use Rattle.flow_reason.proofs.given_up.banned_leaves.Goals.{then-is_banned+in_ok-push, else-is_banned}
use Rattle.flow_reason.proofs.given_up.banned_leaves.Goals as goal

pub loop-leaf-preserved : goal.loop-leaf-preserved
loop-leaf-preserved c =
    let r = c.args.core.now in
    let P = IsBannedLeaf r in
    let just = c.loop-leaf.invariant in
    let below : c.loop-leaf.leaf < length (schema r).labels = omega (arith, c.loop-leaf-test.true, c.leaves-leaf-end.ensures.count) in
    elim c.if-is_banned.branch [
      | then-is_banned+in_ok-push w ↦ subst (AreJust (Below P (c.loop-leaf.leaf + 1))) (sym (ap (λ v. v.items) w.banned-is ∙ w.in_ok-push.ensures.items))
          (one_found P c.loop-leaf.leaf c.loop-leaf.banned.items just (below, c.is_banned.ensures.0 w.if-is_banned.true))
      | else-is_banned w ↦ subst (AreJust (Below P (c.loop-leaf.leaf + 1))) (sym (ap (λ v. v.items) w.banned-is))
          (one_passed P c.loop-leaf.leaf c.loop-leaf.banned.items just (λ has. true≢false (sym (c.is_banned.ensures.1 has.1) ∙ w.if-is_banned.false)))
    ]

pub returns : goal.returns
returns c =
    let r = c.args.core.now in
    let count = c.leaves-leaf-end.ensures.count in
    let past = c.loop-leaf-test.false in
    all_found (IsBannedLeaf r) c.loop-leaf.leaf c.loop-leaf.banned.items c.loop-leaf.invariant
    (λ n has. let below : n < length (schema r).labels = has.0 in omega arith)
