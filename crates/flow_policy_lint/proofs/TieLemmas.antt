-- The ties of an event, by the constraints that they are of.
use Rattle.std.proofs.Common.{◌≡◌, ◌==◌, ◌↔◌, ℕ, Bool, List, IsTrue, sym, subst, ◌∙◌}
use Rattle.std.proofs.lemmas.Bool.{eqb-true, eq-eqb}
use Rattle.flow_model.specs.Lists.{◌∈◌}
use Rattle.flow_model.specs.Duties.{IsConstraintOf}
use Rattle.flow_model.proofs.MadeLists.{passing_member, some_passes}
use Rattle.flow_policy.specs.declared.tie.Tie.{Tie}
use Rattle.flow_policy.specs.Ties.{AreTies}
use Rattle.flow_policy_lint.specs.Findings.{has_tie, IsPairOf}

pub are_tied : (pairs : List (ℕ × ℕ)) (event other : ℕ) (ties : List Tie) (told : Bool) → AreTies pairs event ties → told ≡ has_tie other ties → IsTrue told ↔ IsPairOf pairs event other
are_tied pairs event other ties told are is = (
  λ yes. let (tie, among, same) = passing_member (λ (t : Tie). t.other == other) ties (sym is ∙ yes) in
      (tie.index, subst (λ f. IsConstraintOf pairs tie.index event f) (eqb-true tie.other other same) (are.each tie among)),
  λ (i, of). let (tie, among, same, least) = are.all i other of in
      is ∙ some_passes (λ (t : Tie). t.other == other) tie ties among (eq-eqb tie.other other same),
)
