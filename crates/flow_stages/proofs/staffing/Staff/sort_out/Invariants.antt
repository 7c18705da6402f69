use Rattle.std.proofs.Common.{◌↔◌, ◌⊎◌, ℕ, take}
use Rattle.flow_model.specs.Lists.{◌∈◌}
use Rattle.flow_stages.specs.Fitting.{AreUntied}
use Rattle.flow_stages.proofs.staffing.Staff.sort_out.Given as goal

abbrev pub invariant-loop-other : goal.invariant-loop-other
invariant-loop-other l = record {
  all : (f : ℕ) → (f ∈ take l.other-index l.events) ↔ ((f ∈ l.near.items) ⊎ (f ∈ l.far.items));
  far : (f : ℕ) → f ∈ l.far.items → AreUntied l.self.policy.now.duties l.event f;
}
