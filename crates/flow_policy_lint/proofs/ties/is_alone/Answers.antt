use Rattle.std.proofs.Common.{◌≤◌, ◌<◌, ◌≢◌, ℕ, true≢false, refl, sym, arith}
use Rattle.flow_model.specs.Duties.{HasRole}
use Rattle.flow_staff.proofs.NobodyLemmas.{one_more}
use Rattle.flow_policy_lint.proofs.ties.is_alone.Goals as goal

pub returns-then-is_another : goal.returns-then-is_another
returns-then-is_another c = (
  (λ f. λ user within has. true≢false (sym f)),
  (λ none. absurd (none c.loop-other.other (omega arith) (c.if-is_another.ensures.0 refl))),
)

pub loop-other-preserved : goal.loop-other-preserved
loop-other-preserved c = one_more (λ other. (other ≢ c.args.user) × HasRole c.args.policy.now.duties other c.args.event) c.loop-other.other c.loop-other.invariant
    (λ has. true≢false (sym (c.if-is_another.ensures.1 has)))

pub returns : goal.returns
returns c = (
  (λ t. λ user within has. c.loop-other.invariant user (omega arith) has),
  (λ none. refl),
)
