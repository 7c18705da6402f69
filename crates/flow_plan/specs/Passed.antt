-- What is known of the first leaves of a plan, and of the leaves that its parts have kept.
use Rattle.std.specs.Prelude.{◌≡◌, ◌<◌, ◌≤◌, ℕ, suc, Bool, true, false, not, IsTrue, List, Option, Some, None, get_or, length}
use Rattle.leaf_rows.specs.Leaves.{has_leaf}
use Rattle.leaf_rows.specs.declared.leaf_set.LeafSet.{LeafSet}
use Rattle.flow_model.specs.Lists.{◌∈◌}
use Rattle.flow_plan.specs.declared.cut_sides.CutSides.{CutSides}
use Rattle.flow_plan.specs.declared.passed.Kept.{Kept}
use Rattle.flow_plan.specs.declared.passed.Passed.{Passed}
use Rattle.flow_plan.specs.declared.span.Span.{Span}
use Rattle.flow_plan.specs.Span.{at_span}

-- up to that place, the last leaf that passes the test is the one before the other place
pub record IsLast (test : ℕ → Bool) (ns : List ℕ) (place last : ℕ) : Type 0 where
  pub after : (k : ℕ) → last ≤ k → k < place → test (get_or ns k 0) ≡ false
  pub here : (k : ℕ) → suc k ≡ last → (k < place) × (test (get_or ns k 0) ≡ true)

pub record ArePassed {w : ℕ} (ns : List ℕ) (sides : CutSides w) (wanted : LeafSet w) (passed : Passed) : Type 0 where
  pub within : passed.place ≤ length ns
  pub done : IsLast (has_leaf sides.done) ns passed.place passed.done
  pub lacking : IsLast (λ x. not (has_leaf sides.done x)) ns passed.place passed.lacking
  pub asked : IsLast (has_leaf wanted) ns passed.place passed.asked

abbrev pub AreAt : {w : ℕ} → List ℕ → LeafSet w → Option Span → Type 0
AreAt ns leaves None = Unit {0}
AreAt ns leaves (Some s) = (n : ℕ) → IsTrue (has_leaf leaves n) → n ∈ at_span s ns

-- the leaves stand at the places that are kept beside them
abbrev pub IsHeld : {w : ℕ} → List ℕ → Kept w → Type 0
IsHeld ns kept = AreAt ns kept.leaves kept.within
