-- The constraints of an event.
use Rattle.std.specs.Prelude.{◌≡◌, ◌≤◌, ℕ, List, [], ◌∷◌}
use Rattle.flow_model.specs.Lists.{◌∈◌, Each}
use Rattle.flow_model.specs.Duties.{IsConstraintOf}
use Rattle.flow_policy.specs.declared.tie.Tie.{Tie}

-- each member stands in R to all behind it
abbrev pub Rises : {A : Type 0} → (A → A → Type 0) → List A → Type 0
Rises R [] = Unit {0}
Rises R (x ∷ xs) = Each (R x) xs × Rises R xs

-- no index is less than one before it
abbrev pub IndicesRise : List Tie → Type 0
IndicesRise ties = Rises (λ (t : Tie) (later : Tie). t.index ≤ later.index) ties

-- The ties of the event: each is a constraint of it and another, and of each constraint of it there is one with the same other event
-- and an index that is no greater. So the first tie that has something has it at the least number.
pub record AreTies (pairs : List (ℕ × ℕ)) (event : ℕ) (ties : List Tie) : Type 0 where
  pub each : (tie : Tie) → tie ∈ ties → IsConstraintOf pairs tie.index event tie.other
  pub all : (i f : ℕ) → IsConstraintOf pairs i event f → (tie : Tie) × (tie ∈ ties) × (tie.other ≡ f) × (tie.index ≤ i)
  pub rise : IndicesRise ties
