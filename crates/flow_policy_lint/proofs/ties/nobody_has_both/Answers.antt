use Rattle.std.proofs.Common.{◌≤◌, ◌<◌, ℕ, true≢false, refl, sym, arith}
use Rattle.flow_model.specs.Duties.{HasRole}
use Rattle.flow_staff.proofs.NobodyLemmas.{one_more}
use Rattle.flow_policy_lint.proofs.ties.nobody_has_both.Goals as goal

pub returns-then-has_both : goal.returns-then-has_both
returns-then-has_both c = (
  (λ f. λ user within has. true≢false (sym f)),
  (λ none. absurd (none c.loop-user.user (omega arith) (c.if-has_both.ensures.0 refl))),
)

pub loop-user-preserved : goal.loop-user-preserved
loop-user-preserved c = one_more (λ user. HasRole c.args.policy.now.duties user c.args.one × HasRole c.args.policy.now.duties user c.args.two) c.loop-user.user c.loop-user.invariant
    (λ has. true≢false (sym (c.if-has_both.ensures.1 has)))

pub returns : goal.returns
returns c = (
  (λ t. λ user within has. c.loop-user.invariant user (omega arith) has),
  (λ none. refl),
)
