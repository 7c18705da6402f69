-- What the claims of a core, its residual and its world say of the state.
use Rattle.std.proofs.Common.{◌≡◌, ℕ, Bool, true, false, not, List, [], ◌∷◌, ◌++◌, map, ◌↔◌, IsTrue, IsSomeAnd, sym, ap, ◌∙◌, subst, true≢false}
use Rattle.flow_model.specs.Lists.{◌∈◌}
use Rattle.flow_model.specs.Schema.{Schema}
use Rattle.flow_model.specs.Run.{Claim, RunState, first_state, current_leaves, current_claims, claim_at, MayAllFollow, MayFollowFirst, CanTake}
use Rattle.flow_workflow.specs.Definition.{Definition, schema_of}
use Rattle.flow_residual.specs.Remaining.{Remaining, IsOf}
use Rattle.flow_residual.specs.Claimed.{Claimed, run_of, IsUnanswered}
use Rattle.flow_core.specs.Invariant.{AreClaimsOf}

module _ (w : Definition) (s : RunState) (c : Claimed) (are : AreClaimsOf w s c) where
  pub claims_are : current_claims (run_of c) ≡ current_claims s
  claims_are =
      ap (λ (cs : List Claim). current_claims (record first_state { claims = cs; epoch = c.epoch })) (sym are.claims_are)
      ∙ ap (λ e. current_claims (record first_state { claims = s.claims; epoch = e })) (sym are.epoch_is)

  pub leaves_are : current_leaves (run_of c) ≡ current_leaves s
  leaves_are = ap (map (λ (claim : Claim). claim.leaf)) claims_are

  pub claim_is : (number : ℕ) → claim_at (run_of c) number ≡ claim_at s number
  claim_is number = ap (λ (cs : List Claim). claim_at (record first_state { claims = cs }) number) (sym are.claims_are)

  -- a claim that is to be answered is unanswered, as the claims tell it
  pub unanswered_there : (number : ℕ) → IsUnanswered s number → IsUnanswered (run_of c) number
  unanswered_there number = subst (λ o. IsSomeAnd o (λ (claim : Claim). claim.answered ≡ false)) (sym (claim_is number))

  -- the claims that are handed to the residual are the current ones
  pub told_beside : (r : Remaining) → IsOf (schema_of w) s r → (leaf : ℕ) (b : Bool) (claims : List ℕ) → claims ≡ current_leaves (run_of c) →
      ((w : Schema) (s : RunState) → IsOf w s r → IsTrue b ↔ MayAllFollow w s (claims ++ leaf ∷ [])) → IsTrue b ↔ MayAllFollow (schema_of w) s (current_leaves s ++ leaf ∷ [])
  told_beside r f leaf b claims same says = subst (λ l. IsTrue b ↔ MayAllFollow (schema_of w) s (l ++ leaf ∷ [])) (same ∙ leaves_are) (says (schema_of w) s f)

  pub told_first : (r : Remaining) → IsOf (schema_of w) s r → (leaf : ℕ) (b : Bool) (claims : List ℕ) → claims ≡ current_leaves (run_of c) →
      ((w : Schema) (s : RunState) → IsOf w s r → IsTrue b ↔ MayFollowFirst w s leaf claims) → IsTrue b ↔ MayFollowFirst (schema_of w) s leaf (current_leaves s)
  told_first r f leaf b claims same says = subst (λ l. IsTrue b ↔ MayFollowFirst (schema_of w) s leaf l) (same ∙ leaves_are) (says (schema_of w) s f)

  pub none_among : (leaf : ℕ) (has : Bool) → IsTrue has ↔ (leaf ∈ current_leaves (run_of c)) → has ≡ false → ¬ (leaf ∈ current_leaves s)
  none_among leaf has among none m = true≢false (sym (among.1 (subst (λ l. leaf ∈ l) (sym leaves_are) m)) ∙ none)

  pub cannot_take : (leaf : ℕ) (has : Bool) → IsTrue has ↔ (leaf ∈ current_leaves (run_of c)) → has ≡ true → IsTrue (not has) ↔ CanTake (schema_of w) s leaf
  cannot_take leaf has among some = (
    λ yes. absurd (true≢false (sym yes ∙ ap not some)),
    λ can. absurd (can.1 (subst (λ l. leaf ∈ l) leaves_are (among.0 some))),
  )
