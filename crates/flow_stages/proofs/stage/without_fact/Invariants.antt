use Rattle.std.proofs.Common.{◌≡◌, ◌==◌, ℕ, false, if◌then◌else◌, take}
use Rattle.flow_model.specs.Facts.{state_with}
use Rattle.flow_stages.proofs.stage.without_fact.Given as goal

abbrev pub invariant-loop-other : goal.invariant-loop-other
invariant-loop-other l = (f : ℕ) → state_with l.left.items f ≡ (if f == l.fact then false else state_with (take l.other-index l.held) f)
