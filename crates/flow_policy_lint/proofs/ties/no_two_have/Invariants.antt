use Rattle.std.proofs.Common.{◌<◌, ℕ}
use Rattle.flow_model.specs.Duties.{HasRole}
use Rattle.flow_policy_lint.specs.Findings.{IsAlone}
use Rattle.flow_policy_lint.proofs.ties.no_two_have.Given as goal

abbrev pub invariant-loop-user : goal.invariant-loop-user
invariant-loop-user l = (n : ℕ) → n < l.user → ¬ (HasRole l.policy.duties n l.one × ¬ (IsAlone l.policy.duties l.users n l.two))
