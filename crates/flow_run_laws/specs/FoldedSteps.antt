-- The step table and the legal histories by options whose choices are folded: what may be taken or
-- done, and which claims a new epoch spares, is found in them.
use Rattle.std.specs.Prelude.{◌≡◌, ℕ, ◌+◌, ◌<◌, nat_le, false, IsTrue, List, [], ◌∷◌, ◌++◌, length, take, slice_index, ◌⊎◌, ◌↔◌}
use Rattle.std.specs.List.{filter}
use Rattle.flow_model.specs.declared.history.Entry.{Entry}
use Rattle.flow_model.specs.declared.history.Step.{Step}
use Rattle.flow_model.specs.declared.history.Step.TheVariants.{Took, Failed, Did, Rewound}
use Rattle.flow_model.specs.declared.history.FailEffect.TheVariants.{Switched}
use Rattle.flow_model.specs.Facts.{HoldsAt}
use Rattle.flow_model.specs.Schema.{Schema}
use Rattle.flow_model.specs.Folding.{is_named}
use Rattle.flow_model.specs.FoldedRun.{FoldedCanTake, FoldedCanDoAside}
use Rattle.flow_model.specs.Run.{Claim, RunState, first_state, is_current, leaf_of_claim, database, answer, spare, next_state, IsAllowed, IsLegal}
use Rattle.flow_run_laws.specs.FoldedHistories.{MayAllFollowInFolded}
use Rattle.flow_run_laws.specs.NumberedFolds.{IsLabelled}

-- the entry may be made in the state
abbrev pub IsAllowedInFolded : Schema → RunState → Step → Type 0
IsAllowedInFolded w s (Took claim leaf) = (claim ≡ length s.claims + 1) × FoldedCanTake w s leaf
IsAllowedInFolded w s (Did leaf) = FoldedCanDoAside w s leaf × HoldsAt w.labels (database w s) leaf
IsAllowedInFolded w s other = IsAllowed w s other

-- the claim is current, and in some one folded option its leaf and those before it may follow in
-- every order
abbrev pub IsSparedInFolded : Schema → RunState → List ℕ → Claim → Type 0
IsSparedInFolded w s before claim = IsTrue (is_current s claim) × MayAllFollowInFolded (is_named w) w s (before ++ claim.leaf ∷ [])

-- each claim in turn is spared after those before it, and of the new epoch, or it is not spared and
-- stays as it was
abbrev pub AreSparedInFolded : Schema → RunState → List ℕ → List Claim → List Claim → Type 0
AreSparedInFolded w s before [] left = left ≡ []
AreSparedInFolded w s before (claim ∷ claims) left = (rest : List Claim) × (
    (IsSparedInFolded w s before claim × (left ≡ record claim { epoch = s.epoch + 1 } ∷ rest)
    × AreSparedInFolded w s (before ++ claim.leaf ∷ []) claims rest)
    ⊎ (¬ (IsSparedInFolded w s before claim) × (left ≡ claim ∷ rest) × AreSparedInFolded w s before claims rest))

-- a new epoch begins
abbrev pub NewEpochInFolded : Schema → RunState → RunState → Type 0
NewEpochInFolded w s next = (left : List Claim) × AreSparedInFolded w s [] s.claims left × (next ≡ record s { claims = left; epoch = s.epoch + 1 })

-- the entry leaves that state
abbrev pub LeavesInFolded : Schema → RunState → Step → RunState → Type 0
LeavesInFolded w s (Failed claim Switched) next = NewEpochInFolded w (record s {
  bans = s.bans ++ (length s.journal, leaf_of_claim s claim) ∷ [];
  claims = answer claim s.claims;
}) next
LeavesInFolded w s (Rewound index) next = NewEpochInFolded w (record s {
  journal = take index s.journal;
  bans = filter (λ ban. nat_le ban.0 index) s.bans ++ (index, slice_index s.journal index) ∷ [];
}) next
LeavesInFolded w s other next = next ≡ next_state w s other

-- the entries may be made in turn from the state, where so many were made before
abbrev pub IsLegalInFolded : Schema → ℕ → RunState → ℕ → List Entry → Type 0
IsLegalInFolded w limit s made [] = Unit {0}
IsLegalInFolded w limit s made (entry ∷ entries) =
    (s.committed ≡ false) × (made < limit) × IsAllowedInFolded w s entry.step
    × ((next : RunState) × LeavesInFolded w s entry.step next × IsLegalInFolded w limit next (made + 1) entries)

-- all of it is the same by folded options
abbrev pub SameAllowed : Type 0
SameAllowed = (w : Schema) → IsLabelled w → (s : RunState) (step : Step) → IsAllowedInFolded w s step ↔ IsAllowed w s step

abbrev pub SameClaimsSpared : Type 0
SameClaimsSpared = (w : Schema) → IsLabelled w → (s : RunState) (before : List ℕ) (claims left : List Claim) →
    AreSparedInFolded w s before claims left ↔ (left ≡ spare w s before claims)

abbrev pub SameLeft : Type 0
SameLeft = (w : Schema) → IsLabelled w → (s : RunState) (step : Step) (next : RunState) → LeavesInFolded w s step next ↔ (next ≡ next_state w s step)

abbrev pub SameLegal : Type 0
SameLegal = (w : Schema) → IsLabelled w → (limit : ℕ) (history : List Entry) →
    IsLegalInFolded w limit first_state 0 history ↔ IsLegal w limit history
