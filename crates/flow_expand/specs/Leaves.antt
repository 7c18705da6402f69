-- Goals that are built of the pieces of a layout, with their leaves and facts numbered.
use Rattle.std.specs.Prelude.{◌≡◌, ℕ, ◌+◌, ◌<◌, ◌^◌, List, ◌++◌, fold, length}
use Rattle.flow_model.specs.Lists.{AreDistinct}
use Rattle.flow_model.specs.Process.{Process}
use Rattle.flow_expand.specs.declared.layout.Piece.{Piece}
use Rattle.flow_expand.specs.declared.leaves.Leaves.{Leaves}
use Rattle.flow_expand.specs.Expansion.{Expansion}
use Rattle.flow_expand.specs.Numbers.{facts_in, with_fact, labels_of, leaf_count, numbered}
use Rattle.flow_expand.specs.Layout.{IsPlaced}

-- for so many more leaves and facts there are numbers of 32 bits
pub record HasRoom (leaves : Leaves) (count : ℕ) : Type 0 where
  pub labels : length leaves.labels.items + count < 2 ^ 32
  pub facts : length leaves.facts + count < 2 ^ 32

-- the piece at that place is a goal, and there is room for its leaves
pub record IsBuildable (layout : List Piece) (place : ℕ) (leaves : Leaves) : Type 0 where
  pub events : List (List ℕ)
  pub distinct : AreDistinct events
  pub expansion : Expansion
  pub placed : IsPlaced layout events expansion place
  pub room : HasRoom leaves (leaf_count expansion)

-- the goal's leaves were added, with the facts at them that were new
pub record IsBuilt (events : List (List ℕ)) (e : Expansion) (old new : Leaves) (goal : Process) : Type 0 where
  pub process : goal ≡ numbered (length old.labels.items) e
  pub facts : new.facts ≡ fold with_fact old.facts (facts_in e)
  pub labels : new.labels.items ≡ old.labels.items ++ labels_of events new.facts e

-- whatever goal stands at the place, it was built so
abbrev pub IsBuiltAt : List Piece → ℕ → Leaves → Leaves → Process → Type 0
IsBuiltAt layout i old new goal = (events : List (List ℕ)) (e : Expansion) → AreDistinct events → IsPlaced layout events e i → IsBuilt events e old new goal
