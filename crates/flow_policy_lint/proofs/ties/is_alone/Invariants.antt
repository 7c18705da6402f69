use Rattle.std.proofs.Common.{◌<◌, ◌≢◌, ℕ}
use Rattle.flow_model.specs.Duties.{HasRole}
use Rattle.flow_policy_lint.proofs.ties.is_alone.Given as goal

abbrev pub invariant-loop-other : goal.invariant-loop-other
invariant-loop-other l = (n : ℕ) → n < l.other → ¬ ((n ≢ l.user) × HasRole l.policy.duties n l.event)
