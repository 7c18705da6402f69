-- The state of a run: its journal, its bans and its claims, and what may follow the journal.
use Rattle.std.specs.Prelude.{ℕ, Bool, false, not, ◌&&◌, ◌==◌, nat_lt, IsTrue, List, [], ◌∷◌, ◌++◌, map, Option, Some, None, IsSomeAnd}
use Rattle.std.specs.List.{filter, find}
use Rattle.flow_model.specs.Lists.{◌∈◌, Each, Begins, IsOrderOf}
use Rattle.flow_model.specs.Facts.{State, replay}
use Rattle.flow_model.specs.Schema.{Schema, start_of, IsGood}
use Rattle.flow_model.specs.Resolution.{ChoiceOption, OptionTrace, options}

-- leave to perform an event's leaf
pub record Claim : Type 0 where
  pub number : ℕ
  pub leaf : ℕ
  -- the epoch in which it was given, or the last that began and spared it
  pub epoch : ℕ
  pub answered : Bool

pub record RunState : Type 0 where
  -- the leaves that count, in order
  pub journal : List ℕ
  -- a length of the journal, and the leaf that was banned there
  pub bans : List (ℕ × ℕ)
  -- all claims given, in order
  pub claims : List Claim
  pub epoch : ℕ
  pub committed : Bool

-- before the first entry
abbrev pub first_state : RunState
first_state = record { journal = []; bans = []; claims = []; epoch = 0; committed = false }

-- the claim is unanswered and of the present epoch
abbrev pub is_current : RunState → Claim → Bool
is_current s claim = not claim.answered && (claim.epoch == s.epoch)

-- the claim is unanswered and of an older epoch
abbrev pub is_lapsed : RunState → Claim → Bool
is_lapsed s claim = not claim.answered && nat_lt claim.epoch s.epoch

abbrev pub current_claims : RunState → List Claim
current_claims s = filter (is_current s) s.claims

abbrev pub current_leaves : RunState → List ℕ
current_leaves s = map (λ (claim : Claim). claim.leaf) (current_claims s)

-- the claim of that number, if it was given
abbrev pub claim_at : RunState → ℕ → Option Claim
claim_at s number = find (λ (claim : Claim). claim.number == number) s.claims

-- the leaf of the claim of that number
abbrev pub leaf_of_claim : RunState → ℕ → ℕ
leaf_of_claim s number = leaf_of (claim_at s number)
  where
    leaf_of : Option Claim → ℕ
    leaf_of None = 0
    leaf_of (Some claim) = claim.leaf

abbrev pub IsCurrent : RunState → ℕ → Type 0
IsCurrent s number = IsSomeAnd (claim_at s number) (λ claim. IsTrue (is_current s claim))

abbrev pub IsLapsed : RunState → ℕ → Type 0
IsLapsed s number = IsSomeAnd (claim_at s number) (λ claim. IsTrue (is_lapsed s claim))

-- the database: what the journal leaves of the facts that held at the start
abbrev pub database : Schema → RunState → State
database w s = replay w.labels (start_of w) s.journal

-- t is a good trace that goes on from the journal and holds no banned leaf
abbrev pub IsFree : Schema → RunState → List ℕ → Type 0
IsFree w s t = IsGood w t × Begins t s.journal × Each (λ ban. ¬ (ban.1 ∈ t)) s.bans

-- a free trace of the option goes on with these leaves
abbrev pub MayFollow : Schema → RunState → ChoiceOption → List ℕ → Type 0
MayFollow w s o next = (t : List ℕ) × OptionTrace o t × IsFree w s t × Begins t (s.journal ++ next)

-- in some one option the leaves may follow in every order
abbrev pub MayAllFollow : Schema → RunState → List ℕ → Type 0
MayAllFollow w s list = (o : ChoiceOption) × (o ∈ options w) × ((order : List ℕ) → IsOrderOf order list → MayFollow w s o order)

-- in some one option the leaf may come first, and the others then in every order
abbrev pub MayFollowFirst : Schema → RunState → ℕ → List ℕ → Type 0
MayFollowFirst w s first list = (o : ChoiceOption) × (o ∈ options w) × ((order : List ℕ) → IsOrderOf order list → MayFollow w s o (first ∷ order))
