-- Leaves that were given up.
use Rattle.std.specs.Prelude.{◌<◌, ℕ, List, length}
use Rattle.flow_model.specs.Lists.{◌∈◌, Begins}
use Rattle.flow_model.specs.Schema.{Schema, IsGood}
use Rattle.flow_model.specs.Run.{RunState, IsFree}
use Rattle.flow_plan.specs.Compilation.{IsWithinLimits}
use Rattle.flow_core.specs.Run.{Run, schema, now}
use Rattle.flow_standing.specs.Standing.{IsBanned}

-- no free trace has the leaf
abbrev pub IsLost : Schema → RunState → ℕ → Type 0
IsLost w s leaf = (t : List ℕ) → IsFree w s t → ¬ (leaf ∈ t)

-- some good trace that begins with the journal has the leaf, whatever was given up
abbrev pub IsInReach : Schema → RunState → ℕ → Type 0
IsInReach w s leaf = (t : List ℕ) × IsGood w t × Begins t s.journal × (leaf ∈ t)

-- no free trace has the leaf; without the bans some good trace that begins with the journal has it
pub record IsGivenUp (r : Run) (leaf : ℕ) : Type 0 where
  pub lost : IsLost (schema r) (now r) leaf
  pub in_reach : IsInReach (schema r) (now r) leaf

-- where the workflow is within the limits, it was not
abbrev pub IsNotGivenUp : Run → ℕ → Type 0
IsNotGivenUp r leaf = IsWithinLimits (schema r) → ¬ (IsGivenUp r leaf)

-- the leaf is one of the goal, and banned
abbrev pub IsBannedLeaf : Run → ℕ → Type 0
IsBannedLeaf r leaf = (leaf < length (schema r).labels) × IsBanned r leaf
