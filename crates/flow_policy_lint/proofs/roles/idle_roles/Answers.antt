use Rattle.std.proofs.Common.{◌+◌, ℕ, ap, subst, sym, ◌∙◌, map, true≢false}
use Rattle.flow_model.specs.Verdict.{AreJust}
use Rattle.flow_core.proofs.RisingLists.{one_found, one_passed}
use Rattle.flow_policy_lint.specs.Findings.{IsOneBelow}
use Rattle.flow_policy_lint.specs.Heads.{said, IsIdleRole}
use Rattle.flow_policy_lint.proofs.roles.idle_roles.Goals as goal
use Rattle.flow_policy_lint.proofs.roles.idle_roles.Goals.{then-is_idle+in_ok-push, else-is_idle}

pub loop-number-preserved : goal.loop-number-preserved
loop-number-preserved c =
    let P = IsIdleRole (map said c.args.heads.now) in
    let i : ℕ = c.loop-number.number in
    elim c.if-is_idle.branch [
      | then-is_idle+in_ok-push w ↦ subst (AreJust (IsOneBelow (i + 1) P)) (sym (ap (λ v. v.items) w.found-is ∙ w.in_ok-push.ensures.items))
          (one_found P i c.loop-number.found.items c.loop-number.invariant (c.is_idle.ensures.0 w.if-is_idle.true))
      | else-is_idle w ↦ subst (AreJust (IsOneBelow (i + 1) P)) (sym (ap (λ v. v.items) w.found-is))
          (one_passed P i c.loop-number.found.items c.loop-number.invariant (λ has. true≢false (sym (c.is_idle.ensures.1 has) ∙ w.if-is_idle.false)))
    ]
