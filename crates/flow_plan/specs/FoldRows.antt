-- Rows of bits for the choices that stay in plans.
use Rattle.std.specs.Prelude.{◌<◌, ◌≤◌, ◌⊎◌, ◌&&◌, ◌||◌, not, if◌then◌else◌, ℕ, Bool, IsTrue, List, [], ◌∷◌}
use Rattle.leaf_rows.specs.Leaves.{has_leaf}
use Rattle.leaf_rows.specs.declared.leaf_set.LeafSet.{LeafSet}
use Rattle.leaf_rows.specs.declared.TheConstants.{LEAF_WORDS}
use Rattle.flow_model.specs.declared.limits.TheConstants.{MOST_LEAVES}
use Rattle.flow_model.specs.Lists.{◌∈◌}
use Rattle.flow_model.specs.Process.{Process, leaves}
use Rattle.flow_model.specs.Folding.{choices_of}
use Rattle.flow_fold_laws.specs.SharedFolds.{TellsChoices}
use Rattle.flow_goal.specs.declared.fold.Fold.{Fold}
use Rattle.flow_plan.specs.declared.fold_row.FoldRow.{FoldRow}
use Rattle.flow_plan.specs.declared.fold_row.Met.{Met}
use Rattle.flow_plan.specs.Rows.{IsRowOf}

-- some leaf is in both
abbrev pub Meets : {w : ℕ} → LeafSet w → LeafSet w → Type 0
Meets one other = (n : ℕ) × IsTrue (has_leaf one n) × IsTrue (has_leaf other n)

-- each leaf of the one is in the other
abbrev pub IsWithin : {w : ℕ} → LeafSet w → LeafSet w → Type 0
IsWithin one other = (n : ℕ) → IsTrue (has_leaf one n) → IsTrue (has_leaf other n)

-- one of the two sides has the leaf
abbrev pub HasLeaf : FoldRow → ℕ → Type 0
HasLeaf row n = IsTrue (has_leaf row.left n) ⊎ IsTrue (has_leaf row.right n)

-- one side has the leaf, and the other some leaf of the set
abbrev pub ClosesOff : LeafSet LEAF_WORDS → FoldRow → ℕ → Type 0
ClosesOff done row n = (IsTrue (has_leaf row.left n) × Meets row.right done) ⊎ (IsTrue (has_leaf row.right n) × Meets row.left done)

-- some of the rows closes it off
abbrev pub CloseOff : LeafSet LEAF_WORDS → List FoldRow → ℕ → Type 0
CloseOff done [] n = ⊥
CloseOff done (row ∷ rows) n = ClosesOff done row n ⊎ CloseOff done rows n

-- whether the leaf spoils once the choice was looked at, by whether it did before
abbrev pub spoils_after : FoldRow → Met → Met → Bool → ℕ → Bool
spoils_after row begun spoilt before n =
    if (spoilt.left || begun.right) && (spoilt.right || begun.left)
    then before || (has_leaf row.left n || has_leaf row.right n)
    else before && not (has_leaf row.left n || has_leaf row.right n)

-- the sides follow each other, and end where leaves do
pub record IsWithinLimit (fold : Fold) : Type 0 where
  pub left : fold.first ≤ fold.middle
  pub right : fold.middle ≤ fold.end
  pub end : fold.end ≤ MOST_LEAVES

-- the row of a choice, by where it has its leaves
pub record IsRowFor (fold : Fold) (row : FoldRow) : Type 0 where
  pub left : IsRowOf (λ n. fold.first ≤ n × n < fold.middle) row.left
  pub right : IsRowOf (λ n. fold.middle ≤ n × n < fold.end) row.right

-- the row of a choice, by its two sides
pub record IsFoldRow (choice : Process × Process) (row : FoldRow) : Type 0 where
  pub left : IsRowOf (λ n. n ∈ leaves choice.0) row.left
  pub right : IsRowOf (λ n. n ∈ leaves choice.1) row.right

-- The rows are those of the goal's choices, inner ones first, and of others that have none of its leaves. So one list of rows
-- serves every goal that a workflow's goal folds to.
abbrev pub AreFoldRows : Process → List FoldRow → Type 0
AreFoldRows q rows = TellsChoices IsFoldRow (λ row. (n : ℕ) → n ∈ leaves q → ¬ (HasLeaf row n)) (choices_of q) rows
