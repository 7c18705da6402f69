use Rattle.std.proofs.Common.{◌≡◌, ◌⊎◌, ◌+◌, ℕ}
use Rattle.flow_model.specs.Lists.{◌∈◌}
use Rattle.flow_stages.specs.Fitting.{Fits, Misses}
use Rattle.flow_stages.specs.Trying.{IsToCome, AreOfFirst, AreTogether}
use Rattle.flow_stages.proofs.staffing.Staff.fill.Given as goal

abbrev pub invariant-loop-round : goal.invariant-loop-round
invariant-loop-round l = record {
  first : AreOfFirst l.events l.taken.items;
  remains : (to : ℕ → ℕ) → Fits l.self.policy.now.duties l.wanted (λ e. e ∈ l.events) to →
      Misses l.self.policy.now.duties l.wanted (λ e. e ∈ l.events) to ⊎ IsToCome l.events l.taken.items l.from to;
  together : AreTogether l.self.policy.now.duties l.wanted l.taken.items;
  fewer : l.round + l.states ≡ l.most;
}
