use Rattle.std.proofs.Common.{◌≡◌, subst, arith}
use Rattle.flow_policy_lint.specs.Findings.{ArePairs}
use Rattle.flow_policy_lint.proofs.PairLemmas.{pairs_next}
use Rattle.flow_policy_lint.proofs.pairs.pairs.Goals as goal

pub loop-one-preserved : goal.loop-one-preserved
loop-one-preserved g c = pairs_next (g.Q.PairQuestion.is_so c.args.question.now) c.loop-one.one c.args.count c.loop-one.found.items _ c.loop-one.invariant c.in_ok-add_pairs.ensures

pub returns : goal.returns
returns g c =
    let last : c.loop-one.one ≡ c.args.count = omega (arith, c.loop-one-test.false, c.loop-one.auto.one-end) in
    subst (λ n. ArePairs (g.Q.PairQuestion.is_so c.args.question.now) n c.args.count c.loop-one.found.items) last c.loop-one.invariant
