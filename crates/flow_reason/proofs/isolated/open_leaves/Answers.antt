use Rattle.std.proofs.Common.{◌≡◌, ◌∙◌, ℕ, Bool, true, false, List, get_or, ap, sym, subst}
use Rattle.flow_model.specs.Lists.{Each}
use Rattle.flow_model.proofs.Lists.{each-append}
use Rattle.flow_goal.specs.Goal.{process_of}
use Rattle.flow_goal.specs.Labelled.{Labelled}
use Rattle.flow_workflow.specs.Definition.{Definition}
use Rattle.flow_reason.specs.Isolated.{IsLeftOfPart, is_left}
use Rattle.flow_reason.proofs.IsolatedLemmas.{left_of_run}
use Rattle.flow_reason.proofs.isolated.open_leaves.Goals.{then-is_left+in_ok-push, else-is_left}
use Rattle.flow_reason.proofs.isolated.open_leaves.Goals as goal

pub loop-other-preserved : goal.loop-other-preserved
loop-other-preserved c =
    let r = c.args.core.now in
    let leaf : ℕ = c.args.leaf in
    let other : ℕ = c.loop-other.other in
    let flags : List Bool = c.in_ok-done.done.items in
    let P = IsLeftOfPart r leaf in
    let kept = c.loop-other.invariant in
    let whole = c.goal.ensures ∙ ap (λ (t : Labelled). t.process) c.tree.ensures.tree ∙ ap (λ (d : Definition). d.tree.process) c.workflow.ensures in
    let told = c.is_left.ensures
    ∙ ap (λ (fs : List Bool). is_left (λ n. get_or fs n false) leaf other (process_of c.goal.result.now)) c.deref.ensures.value
    ∙ ap (is_left (λ n. get_or flags n false) leaf other) whole in
    elim c.if-is_left.branch [
      | then-is_left+in_ok-push w ↦ subst (Each P) (sym (ap (λ v. v.items) w.others-is ∙ w.in_ok-push.ensures.items))
          (each-append P _ _ kept (
            left_of_run r leaf other flags c.in_ok-done.ensures c.leaves-other-end.result c.leaves-other-end.ensures.count c.leaves-other-end.ensures.numbered
                (sym told ∙ w.if-is_left.true),
            tt,
          ))
      | else-is_left w ↦ subst (Each P) (sym (ap (λ v. v.items) w.others-is)) kept
    ]
