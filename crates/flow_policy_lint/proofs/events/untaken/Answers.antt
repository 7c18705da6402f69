use Rattle.std.proofs.Common.{◌+◌, ℕ, ap, subst, sym, ◌∙◌, true≢false}
use Rattle.flow_model.specs.Verdict.{AreJust}
use Rattle.flow_core.proofs.RisingLists.{one_found, one_passed}
use Rattle.flow_policy_lint.specs.Findings.{IsOneBelow, IsForNobody}
use Rattle.flow_policy_lint.proofs.events.untaken.Goals as goal
use Rattle.flow_policy_lint.proofs.events.untaken.Goals.{then-is_for_nobody+in_ok-push, else-is_for_nobody}

pub loop-event-preserved : goal.loop-event-preserved
loop-event-preserved c =
    let P = IsForNobody c.args.policy.now.duties c.args.users in
    let i : ℕ = c.loop-event.event in
    elim c.if-is_for_nobody.branch [
      | then-is_for_nobody+in_ok-push w ↦ subst (AreJust (IsOneBelow (i + 1) P)) (sym (ap (λ v. v.items) w.found-is ∙ w.in_ok-push.ensures.items))
          (one_found P i c.loop-event.found.items c.loop-event.invariant (c.is_for_nobody.ensures.0 w.if-is_for_nobody.true))
      | else-is_for_nobody w ↦ subst (AreJust (IsOneBelow (i + 1) P)) (sym (ap (λ v. v.items) w.found-is))
          (one_passed P i c.loop-event.found.items c.loop-event.invariant (λ has. true≢false (sym (c.is_for_nobody.ensures.1 has) ∙ w.if-is_for_nobody.false)))
    ]
