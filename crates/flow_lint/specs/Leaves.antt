-- Leaves that no execution has.
use Rattle.std.specs.Prelude.{ℕ, Bool, ◌==◌, List}
use Rattle.std.specs.List.{list_any}
use Rattle.flow_model.specs.Lists.{◌∈◌}
use Rattle.flow_model.specs.Process.{leaves}
use Rattle.flow_model.specs.Schema.{Schema, IsGood}
use Rattle.flow_plan.specs.Sampled.{Sampled}

-- no trace of the goal that meets the constraints has the leaf, its tests taken as true
abbrev pub IsDead : Schema → ℕ → Type 0
IsDead w leaf = (t : List ℕ) → IsGood w t → ¬ (leaf ∈ t)

-- some plan has the leaf
abbrev pub is_in_plans : List Sampled → ℕ → Bool
is_in_plans plans leaf = list_any (λ (s : Sampled). list_any (λ n. n == leaf) (leaves s.plan.process)) plans
