-- Conflicts, and least conflicts, by what it is that sets of demands are met and are within the limits.
use Rattle.std.specs.Prelude.{◌<◌, ◌⊎◌, ℕ, List}
use Rattle.flow_model.specs.Lists.{◌∈◌, Each}
use Rattle.flow_conflict.specs.Lists.{IsAmong, IsRising, without}

-- numbers of demands, each once and in order, that cannot be met together
pub record IsConflict (met : List ℕ → Type 0) (count : ℕ) (members : List ℕ) : Type 0 where
  pub rising : IsRising members
  pub below : Each (λ member. member < count) members
  pub unmet : ¬ (met members)

-- a set with at least the others, and not this one, is past the limits
pub record IsPast (within : List ℕ → Type 0) (members : List ℕ) (c : ℕ) (asked : List ℕ) : Type 0 where
  pub others : IsAmong (without members c) asked
  pub left_out : ¬ (c ∈ asked)
  pub past : ¬ (within asked)

-- for each member that is not undecided the others are met, and an undecided member is one for the limits
pub record IsLeast (met within : List ℕ → Type 0) (members undecided : List ℕ) : Type 0 where
  pub needed : (c : ℕ) → c ∈ members → (c ∈ undecided) ⊎ met (without members c)
  pub undecided_members : IsAmong undecided members
  pub undecided_past : (c : ℕ) → c ∈ undecided → (asked : List ℕ) × IsPast within members c asked
