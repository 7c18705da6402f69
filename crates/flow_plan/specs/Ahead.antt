-- What stands directly before an isolated part.
use Rattle.std.specs.Prelude.{ℕ, IsTrue, List}
use Rattle.leaf_rows.specs.Leaves.{has_leaf}
use Rattle.leaf_rows.specs.declared.leaf_set.LeafSet.{LeafSet}
use Rattle.flow_model.specs.Lists.{◌∈◌}

-- some of the rows has x
abbrev pub IsInSome : {w : ℕ} → List (LeafSet w) → ℕ → Type 0
IsInSome {w} rows x = (row : LeafSet w) × (row ∈ rows) × IsTrue (has_leaf row x)

-- and it is not itself one of the leaves
abbrev pub IsOutside : {w : ℕ} → List ℕ → List (LeafSet w) → ℕ → Type 0
IsOutside leaves rows x = ¬ (x ∈ leaves) × IsInSome rows x
