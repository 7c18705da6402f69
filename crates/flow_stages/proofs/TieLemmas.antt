-- Ties, told one by one.
use Rattle.std.proofs.Common.{◌≡◌, ◌↔◌, ℕ, List, subst}
use Rattle.flow_model.specs.Duties.{IsConstraintOf}
use Rattle.flow_model.specs.Lists.{◌∈◌}
use Rattle.flow_policy.specs.declared.tie.Tie.{Tie}
use Rattle.flow_policy.specs.Ties.{AreTies}

-- a constraint of the two events is among the ties of the one
pub tied : (pairs : List (ℕ × ℕ)) (event other : ℕ) (ties : List Tie) (Y : Type 0) → AreTies pairs event ties → Y ↔ ((tie : Tie) × (tie ∈ ties) × (tie.other ≡ other)) →
    Y ↔ ((i : ℕ) × IsConstraintOf pairs i event other)
tied pairs event other ties Y are told = (
  λ y. let (tie, there, is) = told.0 y in (tie.index, subst (λ f. IsConstraintOf pairs tie.index event f) is (are.each tie there)),
  λ (i, of). let (tie, there, is, least) = are.all i other of in told.1 (tie, there, is),
)
