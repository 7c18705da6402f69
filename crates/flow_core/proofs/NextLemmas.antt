-- A run that has something else to do does not wait.
use Rattle.std.proofs.Common.{◌≡◌, ◌<◌, ◌∙◌, ℕ, Bool, true, false, cond, List, [], ◌∷◌, IsTrue, is_some, inl, inr, refl, sym, ap, arith, true≢false}
use Rattle.std.proofs.lemmas.Bool.{cases_order}
use Rattle.std.specs.List.{filter}
use Rattle.flow_model.specs.Lists.{◌∈◌}
use Rattle.flow_model.specs.Run.{Claim, RunState, claim_at, current_claims, is_current, IsCurrent, IsStuck, CanDoAside}
use Rattle.flow_model.specs.Schema.{IsGood}
use Rattle.flow_laws.proofs.ClaimLemmas.{some_claim, claim_in}
use Rattle.flow_core.specs.declared.next.Next.{Next}
use Rattle.flow_core.specs.declared.next.Next.TheVariants.{Act, Wait, Finished, Stuck, Ended}
use Rattle.flow_core.specs.Run.{Run, schema, now, IsUncommitted}
use Rattle.flow_core.specs.Next.{CanStep, IsWaiting, IsLeast, IsNext}

pub left_in : (p : Claim → Bool) (claims : List Claim) (claim : Claim) → claim ∈ claims → p claim ≡ true → ¬ (filter p claims ≡ [])
left_in p [] claim m e none = m
left_in p (x ∷ xs) claim m e none = step (p x) refl m none (λ there. left_in p xs claim there e)
  where
    step : (b : Bool) → p x ≡ b → claim ∈ (x ∷ xs) → cond b (x ∷ filter p xs) (filter p xs) ≡ [] → (claim ∈ xs → ¬ (filter p xs ≡ [])) → ⊥
    step true is there empty rest = cc
    step false is (inl same) empty rest = true≢false (sym e ∙ ap p same ∙ is)
    step false is (inr there) empty rest = rest there empty

-- no claim is current where none is out
pub none_current : (s : RunState) (n : ℕ) → current_claims s ≡ [] → ¬ (IsCurrent s n)
none_current s n none current =
    let (claim, found, told) = some_claim (λ c. IsTrue (is_current s c)) (claim_at s n) current in
    left_in (is_current s) s.claims claim (claim_in s.claims n claim found) told none

pub not_stuck : (r : Run) (next : Next) → IsNext r next → ((leaf : ℕ) → ¬ (next ≡ Stuck leaf)) → ¬ (IsStuck (schema r) (now r))
not_stuck r Ended over other is = true≢false (sym over ∙ is.going_on)
not_stuck r (Act leaf) acts other is = elim acts.0.1 [
  | inl can ↦ (let waits = is.only_waiting leaf (inl can) in true≢false (sym can.0 ∙ ap is_some waits.0.0.1))
  | inr can ↦ (is.only_waiting leaf (inr can.0)).1 can.1
]
not_stuck r (Wait claim) out other is = none_current (now r) claim is.no_claim out.2.0
not_stuck r Finished good other is = is.unfinished good.3
not_stuck r (Stuck leaf) here other is = other leaf refl

pub not_waiting : (r : Run) (next : Next) → IsNext r next → ((leaf : ℕ) → ¬ (next ≡ Stuck leaf)) → (leaf : ℕ) → ¬ (IsWaiting r leaf)
not_waiting r next is other leaf waits = not_stuck r next is other waits.0

-- where nothing else is left, the least leaf that is left is the least that waits
pub least_waits : (r : Run) → IsUncommitted r → ((leaf : ℕ) → ¬ (CanStep r leaf)) → current_claims (now r) ≡ [] → ¬ (IsGood (schema r) (now r).journal) →
    (leaf : ℕ) → IsLeast (CanDoAside (schema r) (now r)) leaf → IsLeast (IsWaiting r) leaf
least_waits r going none no_claim unfinished leaf least =
    ((stuck, (least.0, λ holds. none leaf (inr (least.0, holds)))), λ other waits. least.1 other waits.1.0)
  where
    stuck : IsStuck (schema r) (now r)
    stuck = record {
      going_on = going;
      no_claim = no_claim;
      unfinished = unfinished;
      only_waiting = λ n can. elim can [ inl take ↦ absurd (none n (inl take)) | inr aside ↦ (aside, λ holds. none n (inr (aside, holds))) ];
    }

-- a number that has P, where none below it has
pub least_from_below : (P : ℕ → Type 0) (n : ℕ) → P n → ((k : ℕ) → k < n → ¬ (P k)) → IsLeast P n
least_from_below P n has none = (
  has,
  λ other there. elim (cases_order other n) [
    | inl same ↦ omega arith
    | inr (inl less) ↦ absurd (none other less there)
    | inr (inr more) ↦ omega arith
  ],
)
