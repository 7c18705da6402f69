-- What the choices that stay tell of options, by a journal and the banned leaves.
use Rattle.std.specs.Prelude.{◌↔◌, ◌==◌, ℕ, IsTrue, List}
use Rattle.std.specs.List.{list_any}
use Rattle.leaf_rows.specs.Leaves.{has_leaf}
use Rattle.leaf_rows.specs.declared.leaf_set.LeafSet.{LeafSet}
use Rattle.leaf_rows.specs.declared.TheConstants.{LEAF_WORDS}
use Rattle.flow_model.specs.Lists.{◌∈◌, Each}
use Rattle.flow_model.specs.Process.{leaves}
use Rattle.flow_model.specs.Resolution.{ChoiceOption}
use Rattle.flow_model.specs.FoldedReady.{IsClosedOff}
use Rattle.flow_fold_laws.specs.Unfolding.{IsFoldedOrdered}
use Rattle.flow_plan.specs.declared.fold_row.FoldRow.{FoldRow}
use Rattle.flow_plan.specs.declared.sides.Sides.{Sides}
use Rattle.flow_plan.specs.FoldRows.{AreFoldRows}
use Rattle.flow_plan.specs.Sided.{AreSidesOf, IsDoneIn}

-- what every folded option of a workflow has
abbrev pub IsOrderedOption : ChoiceOption → Type 0
IsOrderedOption o = IsFoldedOrdered o.resolution o.order

-- the rows of choices serve the option
abbrev pub AreServing : List FoldRow → ChoiceOption → Type 0
AreServing folds o = AreFoldRows o.resolution folds

-- the set has just the leaves of the list
abbrev pub IsSetOf : List ℕ → LeafSet LEAF_WORDS → Type 0
IsSetOf list set = (n : ℕ) → IsTrue (has_leaf set n) ↔ (n ∈ list)

-- the sides tell of each of the options
pub record Tells (os : List ChoiceOption) (journal bans : List ℕ) (sides : Sides) : Type 0 where
  pub done : IsSetOf journal sides.done
  pub each : Each (λ o. AreSidesOf o.resolution (IsDoneIn sides) (λ n. IsTrue (list_any (λ x. x == n) bans)) sides) os

-- the set has the leaves of the option that the leaves of the list close off
abbrev pub IsApart : {w : ℕ} → List ℕ → LeafSet w → ChoiceOption → Type 0
IsApart list apart o = (n : ℕ) → n ∈ leaves o.resolution → IsTrue (has_leaf apart n) ↔ IsClosedOff o.resolution (λ x. x ∈ list) n
