-- Sets of leaves beside options, in rows of whichever width.
use Rattle.std.specs.Prelude.{ℕ, List, IsTrue}
use Rattle.leaf_rows.specs.Leaves.{has_leaf}
use Rattle.leaf_rows.specs.declared.leaf_set.LeafSet.{LeafSet}
use Rattle.flow_model.specs.Lists.{◌∈◌}
use Rattle.flow_model.specs.Process.{leaves}
use Rattle.flow_model.specs.Resolution.{ChoiceOption}
use Rattle.flow_plan.specs.declared.words.Words.{Words}
use Rattle.flow_plan.specs.declared.words.Words.TheVariants.{Narrow, Middle, Wide}
use Rattle.flow_residual.specs.declared.plan_rows.PlanRows.{PlanRows}
use Rattle.flow_residual.specs.Options.{EachHas}
use Rattle.flow_residual.specs.Track.{IsNextRow}

-- the row has leaves of the option, and no other
abbrev pub IsLeafRow : {w : ℕ} → ChoiceOption → LeafSet w → Type 0
IsLeafRow o row = (n : ℕ) → IsTrue (has_leaf row n) → n ∈ leaves o.resolution

-- the option has a leaf of the set
abbrev pub HasLeafIn : {w : ℕ} → ChoiceOption → LeafSet w → Type 0
HasLeafIn o set = (n : ℕ) × (n ∈ leaves o.resolution) × IsTrue (has_leaf set n)

abbrev AreLeavesIn : Words → List ChoiceOption → PlanRows → Type 0
AreLeavesIn Narrow os rows = EachHas IsLeafRow os rows.narrow.items
AreLeavesIn Middle os rows = EachHas IsLeafRow os rows.middle.items
AreLeavesIn Wide os rows = EachHas IsLeafRow os rows.wide.items

-- those of the width that is kept are leaves of the options
abbrev pub AreLeafRows : List ChoiceOption → PlanRows → Type 0
AreLeafRows os rows = AreLeavesIn rows.words os rows

abbrev AreNextIn : Words → List ℕ → List ChoiceOption → PlanRows → Type 0
AreNextIn Narrow journal os rows = EachHas (IsNextRow journal) os rows.narrow.items
AreNextIn Middle journal os rows = EachHas (IsNextRow journal) os rows.middle.items
AreNextIn Wide journal os rows = EachHas (IsNextRow journal) os rows.wide.items

-- those of the width that is kept are the rows of the options
abbrev pub AreNext : List ℕ → List ChoiceOption → PlanRows → Type 0
AreNext journal os rows = AreNextIn rows.words journal os rows
