-- What may follow the done leaves of a plan.
use Rattle.std.specs.Prelude.{◌≡◌, ℕ, Bool, IsTrue, ◌↔◌, ◌⊎◌, List, [], ◌∷◌, ◌++◌, Option, Some, None}
use Rattle.leaf_rows.specs.Leaves.{has_leaf}
use Rattle.leaf_rows.specs.declared.leaf_set.LeafSet.{LeafSet}
use Rattle.flow_model.specs.Lists.{◌∈◌, IsOrderOf}
use Rattle.flow_model.specs.Process.{Process, leaves}
use Rattle.flow_model.specs.Folding.{choices_of}
use Rattle.flow_model.specs.Ready.{DirectlyBefore, DoneOr}
use Rattle.flow_model.specs.FoldedReady.{IsClosedOff, IsFoldedReady, IsFoldedRunAfter}
use Rattle.flow_fold_laws.specs.FoldedRows.{IsSettled}
use Rattle.flow_plan.specs.Planned.{Planned, pairs_of}
use Rattle.flow_plan.specs.Sided.{AreSidesOf, IsDoneIn}
use Rattle.flow_plan.specs.declared.sides.Sides.{Sides}

-- the sides tell of the plan, by the leaves that they have as done, whatever is banned
abbrev pub TellOf : Planned → Sides → Type 0
TellOf p sides = (banned : ℕ → Bool) × AreSidesOf p.process (IsDoneIn sides) (λ n. IsTrue (banned n)) sides

-- the set has the leaves of the plan that the leaves of the list close off
abbrev pub AreApart : {w : ℕ} → Planned → List ℕ → LeafSet w → Type 0
AreApart p list apart = (n : ℕ) → n ∈ leaves p.process → IsTrue (has_leaf apart n) ↔ IsClosedOff p.process (λ x. x ∈ list) n

-- the leaf may come next after the done ones
abbrev pub MayComeNext : Planned → (ℕ → Type 0) → ℕ → Type 0
MayComeNext p Done n = IsFoldedReady p.process (pairs_of p.tokens) Done n

-- the second leaf may come next after the done ones and the first
abbrev pub MayComeAfter : Planned → (ℕ → Type 0) → ℕ → ℕ → Type 0
MayComeAfter p Done first second = IsFoldedReady p.process (pairs_of p.tokens) (DoneOr Done (first ∷ [])) second

-- the leaves may follow the done ones in every order
abbrev pub MayFollowInEveryOrder : Planned → (ℕ → Type 0) → List ℕ → Type 0
MayFollowInEveryOrder p Done list = (order : List ℕ) → IsOrderOf order list → IsFoldedRunAfter p.process (pairs_of p.tokens) Done order

-- the leaf is neither done nor closed off, and what is directly before it is settled
pub record IsUnblocked (p : Planned) (Done : ℕ → Type 0) (n : ℕ) : Type 0 where
  pub leaf : n ∈ leaves p.process
  pub not_done : ¬ Done n
  pub not_closed : ¬ (IsClosedOff p.process Done n)
  pub before : (x : ℕ) → DirectlyBefore p.process (pairs_of p.tokens) x n → IsSettled p.process Done x

-- some choice that stays has both
abbrev pub IsInChoiceWith : Process → ℕ → ℕ → Type 0
IsInChoiceWith q x y = (choice : Process × Process) × (choice ∈ choices_of q) × (x ∈ (leaves choice.0 ++ leaves choice.1)) × (y ∈ (leaves choice.0 ++ leaves choice.1))

-- there is a leaf, and it is the first one, or some choice has both
abbrev pub IsSettledWith : Planned → ℕ → Option ℕ → Type 0
IsSettledWith p first None = ⊥
IsSettledWith p first (Some leaf) = (first ≡ leaf) ⊎ IsInChoiceWith p.process leaf first
