-- What choices tell along a list of leaves that are done in turn.
use Rattle.std.specs.Prelude.{◌≡◌, ◌+◌, ◌*◌, ◌<◌, ◌≤◌, ◌↔◌, ◌⊎◌, ℕ, IsTrue, List, [], Option, Some, None, length, slice_get, slice_index, take}
use Rattle.leaf_rows.specs.Leaves.{has_leaf}
use Rattle.leaf_rows.specs.declared.leaf_set.LeafSet.{LeafSet}
use Rattle.leaf_rows.specs.declared.TheConstants.{LEAF_WORDS}
use Rattle.flow_model.specs.declared.limits.TheConstants.{MOST_LEAVES}
use Rattle.flow_model.specs.Lists.{◌∈◌, AreDistinct, Each}
use Rattle.flow_model.specs.Process.{leaves}
use Rattle.flow_model.specs.Folding.{IsFolded}
use Rattle.flow_model.specs.FoldedReady.{IsClosedOff}
use Rattle.flow_fold_laws.specs.FoldedRows.{IsSettled}
use Rattle.flow_plan.specs.declared.course.Course.{Course}
use Rattle.flow_plan.specs.declared.course.Turn.{Turn}
use Rattle.flow_plan.specs.declared.cut_sides.CutSides.{CutSides}
use Rattle.flow_plan.specs.declared.fold_row.FoldRow.{FoldRow}
use Rattle.flow_plan.specs.CutSides.{TellIn}
use Rattle.flow_plan.specs.FoldRows.{AreFoldRows}
use Rattle.flow_plan.specs.Orders.{MayComeNext}
use Rattle.flow_plan.specs.Planned.{Planned}

-- the leaves that are settled besides; none where there is no turn
abbrev pub settled_by : Option Turn → List ℕ
settled_by None = []
settled_by (Some turn) = turn.settled.items

-- those that are closed off besides
abbrev pub closed_by : Option Turn → List ℕ
closed_by None = []
closed_by (Some turn) = turn.closed.items

-- what is told of the leaves of a plan, where these and then those leaves are done
pub record IsTurn (p : Planned) (Done Next : ℕ → Type 0) (turn : Option Turn) : Type 0 where
  pub settled : (n : ℕ) → n ∈ leaves p.process → IsSettled p.process Next n ↔ ((IsSettled p.process Done n ⊎ Next n) ⊎ (n ∈ settled_by turn))
  pub closed : (n : ℕ) → n ∈ leaves p.process → IsClosedOff p.process Next n ↔ (IsClosedOff p.process Done n ⊎ (n ∈ closed_by turn))

-- what is told of the leaves of a plan, along a list
pub record IsCourse (p : Planned) (list : List ℕ) (course : Course) : Type 0 where
  pub small : Each (λ n. n < MOST_LEAVES) (leaves p.process)
  pub start : TellIn p (λ n. n ∈ []) course.start
  pub turns : (i : ℕ) → i < length list → Each (λ n. n < MOST_LEAVES) (take (i + 1) list) →
      IsTurn p (λ n. n ∈ take i list) (λ n. n ∈ take (i + 1) list) (slice_get course.turns.items i)

-- what the second sides have besides the first
pub record IsTurnBetween (before after : CutSides LEAF_WORDS) (turn : Turn) : Type 0 where
  pub settled : (n : ℕ) → (n ∈ turn.settled.items) ↔ (IsTrue (has_leaf after.settled n) × ¬ IsTrue (has_leaf before.settled n))
  pub closed : (n : ℕ) → (n ∈ turn.closed.items) ↔ (IsTrue (has_leaf after.closed n) × ¬ IsTrue (has_leaf before.closed n))

-- the rows of choices serve the plan, and its leaves have places in rows
pub record IsServed (folds : List FoldRow) (p : Planned) : Type 0 where
  pub rows : AreFoldRows p.process folds
  pub folded : IsFolded p.process
  pub distinct : AreDistinct (leaves p.process)
  pub small : Each (λ n. n < MOST_LEAVES) (leaves p.process)

-- what the choices tell of each plan that they serve, by a set of done leaves
abbrev pub ToldBy : List FoldRow → LeafSet LEAF_WORDS → CutSides LEAF_WORDS → Type 0
ToldBy folds done sides = (p : Planned) → IsServed folds p → TellIn p (λ n. IsTrue (has_leaf done n)) sides

-- the leaf is done, and the turn is taken in, as far as there is room
pub record IsAdvanced {w : ℕ} (turn : Option Turn) (leaf : ℕ) (old new : CutSides w) : Type 0 where
  pub done : (n : ℕ) → IsTrue (has_leaf new.done n) ↔ ((n ≡ leaf) ⊎ IsTrue (has_leaf old.done n))
  pub settled : (n : ℕ) → n < 64 * w → IsTrue (has_leaf new.settled n) ↔ (((n ≡ leaf) ⊎ IsTrue (has_leaf old.settled n)) ⊎ (n ∈ settled_by turn))
  pub closed : (n : ℕ) → n < 64 * w → IsTrue (has_leaf new.closed n) ↔ (IsTrue (has_leaf old.closed n) ⊎ (n ∈ closed_by turn))

-- So long a front of the list may be done leaf by leaf, and no longer one.
pub record AreFollowed (p : Planned) (list : List ℕ) (k : ℕ) : Type 0 where
  pub within : k ≤ length list
  pub each : (i : ℕ) → i < k → MayComeNext p (λ n. n ∈ take i list) (slice_index list i)
  pub no_longer : k < length list → ¬ (MayComeNext p (λ n. n ∈ take k list) (slice_index list k))
