use Rattle.std.proofs.Common.{◌<◌, ℕ}
use Rattle.flow_model.specs.Duties.{HasRole}
use Rattle.flow_policy_lint.proofs.ties.nobody_has_both.Given as goal

abbrev pub invariant-loop-user : goal.invariant-loop-user
invariant-loop-user l = (n : ℕ) → n < l.user → ¬ (HasRole l.policy.duties n l.one × HasRole l.policy.duties n l.two)
