use Rattle.std.proofs.Common.{◌≤◌, length, true≢false, refl, sym, arith}
use Rattle.flow_policy_lint.proofs.RoleLemmas.{none_more, none_at_all, one_allows}
use Rattle.flow_policy_lint.proofs.roles.is_allowed.Goals as goal

pub returns-then-allows : goal.returns-then-allows
returns-then-allows c = (
  (λ t. one_allows c.args.role.now c.args.heads.now c.loop-head.head-index _ c.loop-head-test.true (c.if-allows.ensures.0 refl)),
  (λ among. refl),
)

pub loop-head-preserved : goal.loop-head-preserved
loop-head-preserved c = none_more c.args.role.now c.args.heads.now c.loop-head.head-index _ c.loop-head-test.true c.loop-head.invariant
    (λ same. true≢false (sym (c.if-allows.ensures.1 same)))

pub returns : goal.returns
returns c =
    let past : length c.args.heads.now ≤ c.loop-head.head-index = omega arith in (
      (λ f. absurd (true≢false (sym f))),
      (λ among. absurd (none_at_all c.args.role.now c.args.heads.now c.loop-head.head-index past c.loop-head.invariant among)),
    )
