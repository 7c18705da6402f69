-- What the choices of a goal that stay say of its leaves.
use Rattle.std.specs.Prelude.{◌≡◌, ◌↔◌, ◌⊎◌, ◌&&◌, ◌||◌, ℕ, IsTrue, List, [], ◌∷◌}
use Rattle.leaf_rows.specs.Leaves.{has_leaf}
use Rattle.leaf_rows.specs.declared.leaf_set.LeafSet.{LeafSet}
use Rattle.leaf_rows.specs.declared.TheConstants.{LEAF_WORDS}
use Rattle.flow_model.specs.Lists.{◌∈◌}
use Rattle.flow_model.specs.Process.{Process, leaves}
use Rattle.flow_model.specs.Ready.{DoneOr}
use Rattle.flow_model.specs.FoldedReady.{IsClosedOff}
use Rattle.flow_model.specs.FoldedRun.{CanAvoid}
use Rattle.flow_fold_laws.specs.FoldedRows.{IsSettled}
use Rattle.flow_plan.specs.declared.fold_row.FoldRow.{FoldRow}
use Rattle.flow_plan.specs.declared.fold_row.Met.{Met}
use Rattle.flow_plan.specs.declared.sides.Sides.{Sides}
use Rattle.flow_plan.specs.FoldRows.{HasLeaf, IsWithin, Meets, spoils_after}

-- the sides have the leaf as done
abbrev pub IsDoneIn : Sides → ℕ → Type 0
IsDoneIn sides n = IsTrue (has_leaf sides.done n)

-- what the sets say of the leaves of the goal, by its done and its banned leaves
pub record AreSidesOf (q : Process) (Done Banned : ℕ → Type 0) (sides : Sides) : Type 0 where
  pub done : (n : ℕ) → IsTrue (has_leaf sides.done n) ↔ Done n
  pub settled : (n : ℕ) → n ∈ leaves q → IsTrue (has_leaf sides.settled n) ↔ IsSettled q Done n
  pub closed : (n : ℕ) → n ∈ leaves q → IsTrue (has_leaf sides.closed n) ↔ IsClosedOff q Done n
  -- the goal cannot go on without the banned leaves exactly where it has a leaf that is spoilt
  pub spoilt : ((n : ℕ) × (n ∈ leaves q) × IsTrue (has_leaf sides.spoilt n)) ↔ ¬ (CanAvoid q Done Banned)
  -- and where it can go on, it cannot once the leaf is done exactly where that is barred
  pub barred : CanAvoid q Done Banned → (n : ℕ) → n ∈ leaves q →
      IsTrue (has_leaf sides.barred n) ↔ ¬ (CanAvoid q (DoneOr Done (n ∷ [])) Banned)

-- which sides have some leaf of the set
pub record IsMet (row : FoldRow) (set : LeafSet LEAF_WORDS) (met : Met) : Type 0 where
  pub left : IsTrue met.left ↔ Meets row.left set
  pub right : IsTrue met.right ↔ Meets row.right set

-- what one more choice changes
pub record TakesFold (row : FoldRow) (done : LeafSet LEAF_WORDS) (old new : Sides) : Type 0 where
  pub done_stays : new.done ≡ old.done
  pub begun : Met
  pub spoilt : Met
  pub begun_are : IsMet row done begun
  pub spoilt_are : IsMet row old.spoilt spoilt
  pub settles : (n : ℕ) → IsTrue (has_leaf new.settled n) ↔ (IsTrue (has_leaf old.settled n)
      ⊎ (HasLeaf row n × (IsWithin row.left old.settled ⊎ IsWithin row.right old.settled)))
  pub closes : (n : ℕ) → has_leaf new.closed n ≡ ((has_leaf old.closed n || (begun.left && has_leaf row.right n)) || (begun.right && has_leaf row.left n))
  pub bars : (n : ℕ) → has_leaf new.barred n ≡ ((has_leaf old.barred n || (spoilt.left && has_leaf row.left n)) || (spoilt.right && has_leaf row.right n))
  pub spoils : (n : ℕ) → has_leaf new.spoilt n ≡ spoils_after row begun spoilt (has_leaf old.spoilt n) n

-- it is that leaf, or some choice has both
abbrev pub StandsWith : List FoldRow → ℕ → ℕ → Type 0
StandsWith rows leaf n = (n ≡ leaf) ⊎ ((row : FoldRow) × (row ∈ rows) × HasLeaf row leaf × HasLeaf row n)
