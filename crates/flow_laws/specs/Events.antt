-- When an execution may hold an event twice.
use Rattle.std.specs.Prelude.{ℕ, ◌⊎◌}
use Rattle.flow_model.specs.Lists.{◌∈◌}
use Rattle.flow_model.specs.Process.{Process, Sequence, Parallel, Choice, Isolated, leaves}

-- the least goal above both leaves, of which x is to the left, is not a choice
abbrev pub AreTogether : Process → ℕ → ℕ → Type 0
AreTogether (Sequence a b) x y = (((x ∈ leaves a) × (y ∈ leaves b)) ⊎ AreTogether a x y) ⊎ AreTogether b x y
AreTogether (Parallel a b) x y = (((x ∈ leaves a) × (y ∈ leaves b)) ⊎ AreTogether a x y) ⊎ AreTogether b x y
AreTogether (Choice a b) x y = AreTogether a x y ⊎ AreTogether b x y
AreTogether (Isolated a) x y = AreTogether a x y
AreTogether leaf x y = ⊥
