-- What the sides tell of a plan, in sets as wide as its rows.
use Rattle.std.specs.Prelude.{◌≡◌, ℕ, ◌*◌, ◌&&◌, nat_lt, ◌↔◌, IsTrue}
use Rattle.leaf_rows.specs.Leaves.{has_leaf}
use Rattle.leaf_rows.specs.declared.leaf_set.LeafSet.{LeafSet}
use Rattle.flow_model.specs.Lists.{◌∈◌}
use Rattle.flow_model.specs.Process.{leaves}
use Rattle.flow_model.specs.FoldedReady.{IsClosedOff}
use Rattle.flow_fold_laws.specs.FoldedRows.{IsSettled}
use Rattle.flow_plan.specs.declared.cut_sides.CutSides.{CutSides}
use Rattle.flow_plan.specs.declared.sides.Sides.{Sides}
use Rattle.flow_plan.specs.Planned.{Planned}

-- the one set has what the other has, as far as there is room
abbrev pub IsCut : {v w : ℕ} → LeafSet v → LeafSet w → Type 0
IsCut {v} {w} set cut = (n : ℕ) → has_leaf cut n ≡ (nat_lt n (64 * w) && has_leaf set n)

pub record AreCut {w : ℕ} (sides : Sides) (cut : CutSides w) : Type 0 where
  pub done : IsCut sides.done cut.done
  pub settled : IsCut sides.settled cut.settled
  pub closed : IsCut sides.closed cut.closed

-- the sets tell of the leaves of the plan, by its done ones
pub record TellIn {w : ℕ} (p : Planned) (Done : ℕ → Type 0) (cut : CutSides w) : Type 0 where
  pub done : (n : ℕ) → n ∈ leaves p.process → IsTrue (has_leaf cut.done n) ↔ Done n
  pub settled : (n : ℕ) → n ∈ leaves p.process → IsTrue (has_leaf cut.settled n) ↔ IsSettled p.process Done n
  pub closed : (n : ℕ) → n ∈ leaves p.process → IsTrue (has_leaf cut.closed n) ↔ IsClosedOff p.process Done n

-- the leaf is neither done nor closed off, and each x with P x of the leaf is settled
pub record IsFree {w : ℕ} (P : ℕ → ℕ → Type 0) (cut : CutSides w) (n : ℕ) : Type 0 where
  pub not_done : ¬ IsTrue (has_leaf cut.done n)
  pub not_closed : ¬ IsTrue (has_leaf cut.closed n)
  pub before : (x : ℕ) → P x n → IsTrue (has_leaf cut.settled x)
