use Rattle.std.proofs.Common.{◌≡◌, ◌<◌, ◌+◌, ◌∙◌, length, ap, subst, sym, true≢false, arith}
use Rattle.flow_model.specs.Verdict.{AreJust}
use Rattle.flow_goal.specs.Labelled.{Labelled}
use Rattle.flow_workflow.specs.Definition.{Definition}
use Rattle.flow_core.specs.Run.{schema}
use Rattle.flow_core.proofs.RisingLists.{Below, one_found, one_passed, all_found}
use Rattle.flow_names.specs.Meaning.{IsFree}
use Rattle.flow_names.proofs.SearchLemmas.{free_below}
use Rattle.flow_names.proofs.leaves.Sought.free_leaves.Goals.{then-branch+in_ok-push, else-branch}
use Rattle.flow_names.proofs.leaves.Sought.free_leaves.Goals as goal

pub loop-leaf-preserved : goal.loop-leaf-preserved
loop-leaf-preserved c =
    let P = IsFree c.args.core.now c.args.self.now in
    let just = c.loop-leaf.invariant in
    elim c.if-branch.branch [
      | then-branch+in_ok-push w ↦ subst (AreJust (Below P (c.loop-leaf.leaf + 1))) (sym (ap (λ v. v.items) w.leaves-is ∙ w.in_ok-push.ensures.items))
          (one_found P c.loop-leaf.leaf c.loop-leaf.leaves.items just (c.in_ok-is_free_at.ensures.0 w.if-branch.true))
      | else-branch w ↦ subst (AreJust (Below P (c.loop-leaf.leaf + 1))) (sym (ap (λ v. v.items) w.leaves-is))
          (one_passed P c.loop-leaf.leaf c.loop-leaf.leaves.items just (λ has. true≢false (sym (c.in_ok-is_free_at.ensures.1 has) ∙ w.if-branch.false)))
    ]

pub returns : goal.returns
returns c =
    let r = c.args.core.now in
    let count : c.leaves-leaf-end.result ≡ length (schema r).labels = c.leaves-leaf-end.ensures.count
    ∙ ap (λ (t : Labelled). length t.labels) (c.tree.ensures.tree ∙ ap (λ (d : Definition). d.tree) c.workflow.ensures) in
    all_found (IsFree r c.args.self.now) c.loop-leaf.leaf c.loop-leaf.leaves.items c.loop-leaf.invariant
    (λ n has. let low : n < length (schema r).labels = free_below r c.args.self.now n has in omega (arith, low, count, c.loop-leaf-test.false))
