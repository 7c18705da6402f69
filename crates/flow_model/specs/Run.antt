-- The run of a workflow: what may be done in a state, the step table, and the legal histories.
use Rattle.std.specs.Prelude.{◌≡◌, ℕ, ◌+◌, ◌<◌, ◌≤◌, true, false, ◌&&◌, ◌==◌, nat_le, if◌then◌else◌, List, [], ◌∷◌, ◌++◌, length, map, take, slice_index, ◌⊎◌}
use Rattle.std.specs.List.{filter}
use Rattle.flow_model.specs.declared.history.Entry.{Entry}
use Rattle.flow_model.specs.declared.history.Step.{Step}
use Rattle.flow_model.specs.declared.history.Step.TheVariants.{Took, Done, Failed, Late, Did, Rewound, Committed}
use Rattle.flow_model.specs.declared.history.FailEffect.TheVariants.{Switched, Kept}
use Rattle.flow_model.specs.Lists.{◌∈◌, Each, Begins}
use Rattle.flow_model.specs.Facts.{HoldsAt}
use Rattle.flow_model.specs.Schema.{Schema, IsEventLeaf, IsOtherLeaf, IsGood}
use Rattle.flow_model.specs.Decided.{can_all_follow}
pub use Rattle.flow_model.specs.RunState.{Claim, RunState, first_state, is_current, is_lapsed, current_claims, current_leaves, claim_at, leaf_of_claim, IsCurrent, IsLapsed, database, IsFree, MayFollow, MayAllFollow, MayFollowFirst}

-- the leaf is an event's with no claim on it, and in some one option it and the current claims' leaves may
-- follow in every order
abbrev pub CanTake : Schema → RunState → ℕ → Type 0
CanTake w s n = IsEventLeaf w n × ¬ (n ∈ current_leaves s) × MayAllFollow w s (current_leaves s ++ n ∷ [])

-- the leaf is no event's, and in some one option it may come first, and the current claims' leaves then in every order
abbrev pub CanDoAside : Schema → RunState → ℕ → Type 0
CanDoAside w s n = IsOtherLeaf w n × MayFollowFirst w s n (current_leaves s)

-- besides, its label holds now
abbrev pub CanDo : Schema → RunState → ℕ → Type 0
CanDo w s n = CanDoAside w s n × HoldsAt w.labels (database w s) n

-- at that place of the journal another choice is still free: some good trace has the journal up to there,
-- none of the leaves banned up to there, and not the leaf there
abbrev pub IsOpen : Schema → RunState → ℕ → Type 0
IsOpen w s i = (i < length s.journal) × ((t : List ℕ) × IsGood w t × Begins t (take i s.journal) ×
    Each (λ ban. ban.0 ≤ i → ¬ (ban.1 ∈ t)) s.bans × ¬ (slice_index s.journal i ∈ t))

-- it is the greatest such place
abbrev pub IsOpenIndex : Schema → RunState → ℕ → Type 0
IsOpenIndex w s i = IsOpen w s i × ((k : ℕ) → IsOpen w s k → k ≤ i)

-- the entry may be made in the state
abbrev pub IsAllowed : Schema → RunState → Step → Type 0
IsAllowed w s (Took claim leaf) = (claim ≡ length s.claims + 1) × CanTake w s leaf
IsAllowed w s (Done claim) = IsCurrent s claim
IsAllowed w s (Failed claim Switched) = IsCurrent s claim × ((t : List ℕ) × IsFree w s t × ¬ (leaf_of_claim s claim ∈ t))
IsAllowed w s (Failed claim Kept) = IsCurrent s claim × ((t : List ℕ) → IsFree w s t → leaf_of_claim s claim ∈ t)
IsAllowed w s (Late claim) = IsLapsed s claim
IsAllowed w s (Did leaf) = CanDo w s leaf
IsAllowed w s (Rewound index) = IsOpenIndex w s index
IsAllowed w s Committed = (current_claims s ≡ []) × IsGood w s.journal

-- the claims with that one answered
abbrev pub answer : ℕ → List Claim → List Claim
answer number claims = map (λ (claim : Claim). if claim.number == number then record claim { answered = true } else claim) claims

-- The claims when a new epoch begins, looked at in turn. A current one is spared, so that it is of the new epoch, where in
-- some one option its leaf and those of the claims spared before it may follow in every order. The others stay of the old one.
abbrev pub spare : Schema → RunState → List ℕ → List Claim → List Claim
spare w s before [] = []
spare w s before (claim ∷ claims) =
    if is_current s claim && can_all_follow w s (before ++ claim.leaf ∷ [])
    then record claim { epoch = s.epoch + 1 } ∷ spare w s (before ++ claim.leaf ∷ []) claims
    else claim ∷ spare w s before claims

-- a new epoch begins
abbrev pub with_new_epoch : Schema → RunState → RunState
with_new_epoch w s = record s { claims = spare w s [] s.claims; epoch = s.epoch + 1 }

-- the state that the entry leaves
abbrev pub next_state : Schema → RunState → Step → RunState
next_state w s (Took claim leaf) = record s { claims = s.claims ++ record { number = claim; leaf = leaf; epoch = s.epoch; answered = false } ∷ [] }
next_state w s (Done claim) = record s { journal = s.journal ++ leaf_of_claim s claim ∷ []; claims = answer claim s.claims }
next_state w s (Failed claim Switched) = with_new_epoch w (record s {
  bans = s.bans ++ (length s.journal, leaf_of_claim s claim) ∷ [];
  claims = answer claim s.claims;
})
next_state w s (Failed claim Kept) = record s { claims = answer claim s.claims }
next_state w s (Late claim) = record s { claims = answer claim s.claims }
next_state w s (Did leaf) = record s { journal = s.journal ++ leaf ∷ [] }
next_state w s (Rewound index) = with_new_epoch w (record s {
  journal = take index s.journal;
  bans = filter (λ ban. nat_le ban.0 index) s.bans ++ (index, slice_index s.journal index) ∷ [];
})
next_state w s Committed = record s { committed = true }

-- the state after the entries, one after another
abbrev pub state_after : Schema → RunState → List Entry → RunState
state_after w s [] = s
state_after w s (entry ∷ entries) = state_after w (next_state w s entry.step) entries

-- the state of a history
abbrev pub state_of : Schema → List Entry → RunState
state_of w history = state_after w first_state history

-- The entries may be made in turn from the state, where so many were made before: none after a commit,
-- and no more than the limit.
abbrev pub IsLegalFrom : Schema → ℕ → RunState → ℕ → List Entry → Type 0
IsLegalFrom w limit s made [] = Unit {0}
IsLegalFrom w limit s made (entry ∷ entries) =
    (s.committed ≡ false) × (made < limit) × IsAllowed w s entry.step
    × IsLegalFrom w limit (next_state w s entry.step) (made + 1) entries

abbrev pub IsLegal : Schema → ℕ → List Entry → Type 0
IsLegal w limit history = IsLegalFrom w limit first_state 0 history

-- the leaf is a test or an absence that is false now, and nothing else keeps it from being done
abbrev pub Waits : Schema → RunState → ℕ → Type 0
Waits w s n = CanDoAside w s n × ¬ (HoldsAt w.labels (database w s) n)

-- nothing is left but tests and absences that are false now
pub record IsStuck (w : Schema) (s : RunState) : Type 0 where
  pub going_on : s.committed ≡ false
  pub no_claim : current_claims s ≡ []
  pub unfinished : ¬ (IsGood w s.journal)
  pub only_waiting : (n : ℕ) → CanTake w s n ⊎ CanDoAside w s n → Waits w s n
