use Rattle.std.proofs.Common.{◌+◌, ℕ, ap, subst, sym, ◌∙◌, true≢false}
use Rattle.flow_model.specs.Verdict.{AreJust}
use Rattle.flow_core.proofs.RisingLists.{one_found, one_passed}
use Rattle.flow_lint.specs.Finding.{IsOneOf}
use Rattle.flow_lint.proofs.question.those.Goals.{then-branch+in_ok-push, else-branch}
use Rattle.flow_lint.proofs.question.those.Goals as goal

pub loop-number-preserved : goal.loop-number-preserved
loop-number-preserved g c =
    let P = g.Q.Question.is_so c.args.question.now in
    let i : ℕ = c.loop-number.number in
    let just = c.loop-number.invariant in
    elim c.if-branch.branch [
      | then-branch+in_ok-push w ↦ subst (AreJust (IsOneOf (i + 1) P)) (sym (ap (λ v. v.items) w.numbers-is ∙ w.in_ok-push.ensures.items))
          (one_found P i c.loop-number.numbers.items just (c.in_ok-ask.ensures.0 w.if-branch.true))
      | else-branch w ↦ subst (AreJust (IsOneOf (i + 1) P)) (sym (ap (λ v. v.items) w.numbers-is))
          (one_passed P i c.loop-number.numbers.items just (λ has. true≢false (sym (c.in_ok-ask.ensures.1 has) ∙ w.if-branch.false)))
    ]
