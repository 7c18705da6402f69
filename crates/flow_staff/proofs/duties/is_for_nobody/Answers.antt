use Rattle.std.proofs.Common.{◌≤◌, ◌<◌, ℕ, true≢false, refl, sym, arith}
use Rattle.flow_model.specs.Duties.{HasRole}
use Rattle.flow_staff.proofs.NobodyLemmas.{one_more}
use Rattle.flow_staff.proofs.duties.is_for_nobody.Goals as goal

pub returns-then-has_role : goal.returns-then-has_role
returns-then-has_role c = (
  (λ f. λ user within has. true≢false (sym f)),
  (λ none. absurd (none c.loop-user.user (omega arith) (c.if-has_role.ensures.0 refl))),
)

pub loop-user-preserved : goal.loop-user-preserved
loop-user-preserved c = one_more (λ user. HasRole c.args.policy.now.duties user c.args.event) c.loop-user.user c.loop-user.invariant
    (λ has. true≢false (sym (c.if-has_role.ensures.1 has)))

pub returns : goal.returns
returns c = (
  (λ t. λ user within has. c.loop-user.invariant user (omega arith) has),
  (λ none. refl),
)
