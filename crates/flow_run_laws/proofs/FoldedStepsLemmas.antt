-- Legal histories are the same by folded options.
use Rattle.std.proofs.Common.{◌≡◌, ℕ, ◌+◌, List, [], ◌∷◌, ◌++◌, length, take, slice_index, filter, nat_le, refl, sym, subst, inl, inr, ⊎_elim, ◌↔◌}
use Rattle.flow_model.specs.declared.history.Entry.{Entry}
use Rattle.flow_model.specs.declared.history.Step.TheVariants.{Took, Done, Failed, Late, Did, Rewound, Committed}
use Rattle.flow_model.specs.declared.history.FailEffect.TheVariants.{Switched, Kept}
use Rattle.flow_model.specs.Schema.{Schema}
use Rattle.flow_model.specs.Folding.{is_named}
use Rattle.flow_model.specs.Run.{Claim, RunState, first_state, leaf_of_claim, answer, spare, with_new_epoch, next_state, IsLegalFrom}
use Rattle.flow_laws.specs.Spared.{IsSpared, AreSpared}
use Rattle.flow_laws.proofs.ClaimLemmas.{spare_is, spare_only}
use Rattle.flow_run_laws.specs.NumberedFolds.{IsLabelled}
use Rattle.flow_run_laws.specs.FoldedSteps.{IsSparedInFolded, AreSparedInFolded, NewEpochInFolded, IsLegalInFolded, SameAllowed, SameClaimsSpared, SameLeft, SameLegal}
use Rattle.flow_run_laws.proofs.NumberedFoldsLemmas.{all_taken_alike, all_done_alike, all_spared_alike}

pub same_allowed : SameAllowed
same_allowed w l s (Took claim leaf) = let same = all_taken_alike w l s leaf in (λ (n, can). (n, same.0 can), λ (n, can). (n, same.1 can))
same_allowed w l s (Did leaf) = let same = all_done_alike w l s leaf in (λ (can, holds). (same.0 can, holds), λ (can, holds). (same.1 can, holds))
same_allowed w l s (Done claim) = (λ h. h, λ h. h)
same_allowed w l s (Failed claim effect) = (λ h. h, λ h. h)
same_allowed w l s (Late claim) = (λ h. h, λ h. h)
same_allowed w l s (Rewound index) = (λ h. h, λ h. h)
same_allowed w l s Committed = (λ h. h, λ h. h)

-- Claims that are spared

spared_alike : (w : Schema) → IsLabelled w → (s : RunState) (before : List ℕ) (claim : Claim) → IsSpared w s before claim ↔ IsSparedInFolded w s before claim
spared_alike w l s before claim = all_spared_alike (is_named w) w l (λ n h. h) s before claim

to_options : (w : Schema) → IsLabelled w → (s : RunState) (before : List ℕ) (claims left : List Claim) → AreSparedInFolded w s before claims left → AreSpared w s before claims left
to_options w l s before [] left h = h
to_options w l s before (claim ∷ claims) left (rest, h) = (
  rest,
  ⊎_elim
      (λ (is, e, k). inl ((spared_alike w l s before claim).1 is, e, to_options w l s (before ++ claim.leaf ∷ []) claims rest k))
      (λ (not, e, k). inr (λ is. not ((spared_alike w l s before claim).0 is), e, to_options w l s before claims rest k)) h,
)

of_options : (w : Schema) → IsLabelled w → (s : RunState) (before : List ℕ) (claims left : List Claim) → AreSpared w s before claims left → AreSparedInFolded w s before claims left
of_options w l s before [] left h = h
of_options w l s before (claim ∷ claims) left (rest, h) = (
  rest,
  ⊎_elim
      (λ (is, e, k). inl ((spared_alike w l s before claim).0 is, e, of_options w l s (before ++ claim.leaf ∷ []) claims rest k))
      (λ (not, e, k). inr (λ is. not ((spared_alike w l s before claim).1 is), e, of_options w l s before claims rest k)) h,
)

pub same_claims_spared : SameClaimsSpared
same_claims_spared w l s before claims left = (
  λ h. spare_only w s before claims left (to_options w l s before claims left h),
  λ e. subst (AreSparedInFolded w s before claims) (sym e) (of_options w l s before claims (spare w s before claims) (spare_is w s before claims)),
)

-- States and histories

same_epoch : (w : Schema) → IsLabelled w → (s next : RunState) → NewEpochInFolded w s next ↔ (next ≡ with_new_epoch w s)
same_epoch w l s next = (
  λ (left, spared, e). subst (λ claims. next ≡ record s { claims = claims; epoch = s.epoch + 1 }) ((same_claims_spared w l s [] s.claims left).0 spared) e,
  λ e. (spare w s [] s.claims, (same_claims_spared w l s [] s.claims (spare w s [] s.claims)).1 refl, e),
)

pub same_left : SameLeft
same_left w l s (Failed claim Switched) next =
    same_epoch w l (record s { bans = s.bans ++ (length s.journal, leaf_of_claim s claim) ∷ []; claims = answer claim s.claims }) next
same_left w l s (Rewound index) next = same_epoch w l (record s {
  journal = take index s.journal;
  bans = filter (λ ban. nat_le ban.0 index) s.bans ++ (index, slice_index s.journal index) ∷ [];
}) next
same_left w l s (Took claim leaf) next = (λ e. e, λ e. e)
same_left w l s (Done claim) next = (λ e. e, λ e. e)
same_left w l s (Failed claim Kept) next = (λ e. e, λ e. e)
same_left w l s (Late claim) next = (λ e. e, λ e. e)
same_left w l s (Did leaf) next = (λ e. e, λ e. e)
same_left w l s Committed next = (λ e. e, λ e. e)

legal_in_options : (w : Schema) → IsLabelled w → (limit : ℕ) (s : RunState) (made : ℕ) (history : List Entry) → IsLegalInFolded w limit s made history → IsLegalFrom w limit s made history
legal_in_options w l limit s made [] h = tt
legal_in_options w l limit s made (entry ∷ history) (going, room, allowed, (next, leads, rest)) = (
  going,
  room,
  (same_allowed w l s entry.step).0 allowed,
  subst (λ s. IsLegalFrom w limit s (made + 1) history) ((same_left w l s entry.step next).0 leads) (legal_in_options w l limit next (made + 1) history rest),
)

legal_in_folded : (w : Schema) → IsLabelled w → (limit : ℕ) (s : RunState) (made : ℕ) (history : List Entry) → IsLegalFrom w limit s made history → IsLegalInFolded w limit s made history
legal_in_folded w l limit s made [] h = tt
legal_in_folded w l limit s made (entry ∷ history) (going, room, allowed, rest) = (
  going,
  room,
  (same_allowed w l s entry.step).1 allowed,
  (
    next_state w s entry.step,
    (same_left w l s entry.step (next_state w s entry.step)).1 refl,
    legal_in_folded w l limit (next_state w s entry.step) (made + 1) history rest,
  ),
)

pub same_legal : SameLegal
same_legal w l limit history = (legal_in_options w l limit first_state 0 history, legal_in_folded w l limit first_state 0 history)
