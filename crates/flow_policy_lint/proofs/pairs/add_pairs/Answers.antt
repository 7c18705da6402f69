use Rattle.std.proofs.Common.{◌≡◌, ap, subst, sym, ◌∙◌, true≢false, arith}
use Rattle.flow_policy_lint.specs.Findings.{AddsPairs}
use Rattle.flow_policy_lint.proofs.PairLemmas.{one_added, one_passed}
use Rattle.flow_policy_lint.proofs.pairs.add_pairs.Goals.{then-branch+in_ok-push, else-branch}
use Rattle.flow_policy_lint.proofs.pairs.add_pairs.Goals as goal

pub loop-two-preserved : goal.loop-two-preserved
loop-two-preserved g c =
    let P = g.Q.PairQuestion.is_so c.args.question.now in
    elim c.if-branch.branch [
      | then-branch+in_ok-push w ↦ one_added P c.args.one c.loop-two.two c.args.found.now.items c.loop-two.found.items _ c.loop-two.invariant
          (c.in_ok-ask.ensures.0 w.if-branch.true) (ap (λ v. v.items) w.found-is ∙ w.in_ok-push.ensures.items)
      | else-branch w ↦ one_passed P c.args.one c.loop-two.two c.args.found.now.items c.loop-two.found.items _ c.loop-two.invariant
          (λ has. true≢false (sym (c.in_ok-ask.ensures.1 has) ∙ w.if-branch.false)) (ap (λ v. v.items) w.found-is)
    ]

pub returns : goal.returns
returns g c =
    let last : c.loop-two.two ≡ c.args.count = omega (arith, c.loop-two-test.false, c.loop-two.auto.two-end) in
    subst (λ n. AddsPairs (g.Q.PairQuestion.is_so c.args.question.now) c.args.one n c.args.found.now.items c.loop-two.found.items) last c.loop-two.invariant
