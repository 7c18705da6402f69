-- Claims that are out have takers, as what is done has.
use Rattle.std.specs.Prelude.{◌≡◌, ℕ, List, Some, ◌⊎◌}
use Rattle.flow_model.specs.declared.history.Entry.{Entry}
use Rattle.flow_model.specs.Lists.{◌∈◌, Begins}
use Rattle.flow_model.specs.Facts.{event_at}
use Rattle.flow_model.specs.Schema.{Schema}
use Rattle.flow_model.specs.Run.{RunState, current_leaves, IsLegal, state_of}
use Rattle.flow_model.specs.Takers.{Takings, takings_of, taker_of, IsOut, IsTakenBy}
use Rattle.flow_model.specs.Duties.{Duties, HasRole, IsDutiful}
use Rattle.flow_laws.specs.WellFormed.{IsWellFormed, IsConsistent}

-- the leaf is taken by this user, and by no other
abbrev pub IsTakenByOnly : RunState → Takings → ℕ → ℕ → Type 0
IsTakenByOnly s t n user = IsTakenBy s t n user × ((other : ℕ) → IsTakenBy s t n other → other ≡ user)

-- the leaf of a claim that is out is taken by the claim's taker alone
abbrev pub ClaimsOutHaveTakers : Type 0
ClaimsOutHaveTakers = (w : Schema) → IsWellFormed w → IsConsistent w → (limit : ℕ) (history : List Entry) → IsLegal w limit history →
    (front : List Entry) → Begins history front → (claim n : ℕ) → IsOut (state_of w front) claim n →
    (user : ℕ) × (taker_of front claim ≡ Some user) × IsTakenByOnly (state_of w front) (takings_of front) n user

-- it is done, or under a claim that is out
abbrev pub IsDoneOrOut : RunState → ℕ → Type 0
IsDoneOrOut s n = (n ∈ s.journal) ⊎ (n ∈ current_leaves s)

-- each event leaf that is done or under a claim has just one taker
abbrev pub LeavesHaveOneTaker : Type 0
LeavesHaveOneTaker = (w : Schema) → IsWellFormed w → IsConsistent w → (limit : ℕ) (history : List Entry) → IsLegal w limit history →
    (front : List Entry) → Begins history front → (n event : ℕ) → event_at w.labels n ≡ Some event → IsDoneOrOut (state_of w front) n →
    (user : ℕ) × IsTakenByOnly (state_of w front) (takings_of front) n user

-- where each claim was left to its taker, each such leaf has a taker whom some role allows its
-- event
abbrev pub TakersHaveRoles : Type 0
TakersHaveRoles = (w : Schema) → IsWellFormed w → IsConsistent w → (d : Duties) (limit : ℕ) (history : List Entry) → IsLegal w limit history →
    IsDutiful w d history → (front : List Entry) → Begins history front → (n event : ℕ) → event_at w.labels n ≡ Some event →
    IsDoneOrOut (state_of w front) n →
    (user : ℕ) × IsTakenByOnly (state_of w front) (takings_of front) n user × HasRole d user event
