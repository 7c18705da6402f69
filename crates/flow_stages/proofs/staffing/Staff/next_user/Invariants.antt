use Rattle.std.proofs.Common.{ℕ, ◌≤◌, ◌<◌}
use Rattle.flow_stages.specs.Fitting.{MayHave}
use Rattle.flow_stages.proofs.staffing.Staff.next_user.Given as goal

abbrev pub invariant-loop-user : goal.invariant-loop-user
invariant-loop-user l = (v : ℕ) → l.from ≤ v → v < l.user → MayHave l.self.policy.now.duties l.wanted l.taken l.event v → ⊥
