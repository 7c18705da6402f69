use Rattle.std.proofs.Common.{◌≡◌, ◌<◌, ◌+◌, ◌∙◌, length, ap, subst, sym, true≢false, arith}
use Rattle.flow_model.specs.Verdict.{AreJust}
use Rattle.flow_goal.specs.Labelled.{Labelled}
use Rattle.flow_workflow.specs.Definition.{Definition}
use Rattle.flow_core.specs.Run.{schema}
use Rattle.flow_core.proofs.RisingLists.{Below, one_found, one_passed, all_found}
use Rattle.flow_case_state.proofs.FreeLoops.{acts_below}
use Rattle.flow_list.specs.Steps.{IsFreeStep}
use Rattle.flow_list.proofs.steps.free_steps.Goals.{then-is_free_step+in_ok-push, else-is_free_step}
use Rattle.flow_list.proofs.steps.free_steps.Goals as goal

pub loop-leaf-preserved : goal.loop-leaf-preserved
loop-leaf-preserved c =
    let P = IsFreeStep c.args.core.now in
    let just = c.loop-leaf.invariant in
    elim c.if-is_free_step.branch [
      | then-is_free_step+in_ok-push w ↦ subst (AreJust (Below P (c.loop-leaf.leaf + 1))) (sym (ap (λ v. v.items) w.leaves-is ∙ w.in_ok-push.ensures.items))
          (one_found P c.loop-leaf.leaf c.loop-leaf.leaves.items just (c.is_free_step.ensures.0 w.if-is_free_step.true))
      | else-is_free_step w ↦ subst (AreJust (Below P (c.loop-leaf.leaf + 1))) (sym (ap (λ v. v.items) w.leaves-is))
          (one_passed P c.loop-leaf.leaf c.loop-leaf.leaves.items just (λ has. true≢false (sym (c.is_free_step.ensures.1 has) ∙ w.if-is_free_step.false)))
    ]

pub returns : goal.returns
returns c =
    let r = c.args.core.now in
    let count : c.leaves-leaf-end.result ≡ length (schema r).labels = c.leaves-leaf-end.ensures.count
    ∙ ap (λ (t : Labelled). length t.labels) (c.tree.ensures.tree ∙ ap (λ (d : Definition). d.tree) c.workflow.ensures) in
    all_found (IsFreeStep r) c.loop-leaf.leaf c.loop-leaf.leaves.items c.loop-leaf.invariant
    (λ n has. let low : n < length (schema r).labels = acts_below r n has.0 in omega (arith, low, count, c.loop-leaf-test.false))
