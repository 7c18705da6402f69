use Rattle.std.proofs.Common.{◌≤◌, ◌<◌, ℕ, true≢false, refl, sym, arith}
use Rattle.flow_model.specs.Duties.{HasRole}
use Rattle.flow_staff.proofs.NobodyLemmas.{one_more}
use Rattle.flow_policy_lint.specs.Findings.{IsAlone}
use Rattle.flow_policy_lint.proofs.ties.no_two_have.Goals as goal

pub returns-then-is_of_two : goal.returns-then-is_of_two
returns-then-is_of_two c = (
  (λ f. λ user within has. true≢false (sym f)),
  (λ none. absurd (none c.loop-user.user (omega arith) (c.if-is_of_two.ensures.0 refl))),
)

pub loop-user-preserved : goal.loop-user-preserved
loop-user-preserved c = one_more (λ user. HasRole c.args.policy.now.duties user c.args.one × ¬ (IsAlone c.args.policy.now.duties c.args.users user c.args.two)) c.loop-user.user c.loop-user.invariant
    (λ has. true≢false (sym (c.if-is_of_two.ensures.1 has)))

pub returns : goal.returns
returns c = (
  (λ t. λ user within has. c.loop-user.invariant user (omega arith) has),
  (λ none. refl),
)
