-- What holds of who took what, in every legal history.
use Rattle.std.specs.Prelude.{◌≡◌, ℕ, if◌then◌else◌, List, [], ◌∷◌, Option, Some, None}
use Rattle.flow_model.specs.declared.history.Entry.{Entry}
use Rattle.flow_model.specs.declared.labels.Label.{Label}
use Rattle.flow_model.specs.Lists.{◌∈◌, Begins}
use Rattle.flow_model.specs.Schema.{Schema}
use Rattle.flow_model.specs.Facts.{event_at, is_event}
use Rattle.flow_model.specs.Run.{state_of, IsLegal}
use Rattle.flow_model.specs.Takers.{Taking, takings_of, IsTakenBy}
use Rattle.flow_model.specs.Duties.{Duties, IsDutiful, DutiesHold}
use Rattle.flow_laws.specs.WellFormed.{IsWellFormed, IsConsistent}

-- the last of the takings on a leaf of the event
abbrev pub last_on : List Label → List Taking → ℕ → Option Taking
last_on labels [] event = None
last_on labels (t ∷ ts) event = later (last_on labels ts event)
  where
    later : Option Taking → Option Taking
    later None = if is_event event (event_at labels t.leaf) then Some t else None
    later (Some u) = Some u

-- who has a leaf of the event took the last claim on it
abbrev pub LastClaimHasIt : Type 0
LastClaimHasIt = (w : Schema) → IsWellFormed w → IsConsistent w → (limit : ℕ) (history : List Entry) → IsLegal w limit history →
    (n user event : ℕ) → event_at w.labels n ≡ Some event → IsTakenBy (state_of w history) (takings_of history) n user →
    (claim : ℕ) × (last_on w.labels (takings_of history).given event ≡ Some (record { claim = claim; leaf = n; taker = user }))

-- each event leaf that is done has a taker
abbrev pub DoneLeavesHaveTakers : Type 0
DoneLeavesHaveTakers = (w : Schema) → IsWellFormed w → IsConsistent w → (limit : ℕ) (history : List Entry) → IsLegal w limit history →
    (n event : ℕ) → event_at w.labels n ≡ Some event → n ∈ (state_of w history).journal → (user : ℕ) × IsTakenBy (state_of w history) (takings_of history) n user

-- where each claim was left to its taker, duties hold after every step
abbrev pub DutiesAreKept : Type 0
DutiesAreKept = (w : Schema) → IsWellFormed w → IsConsistent w → (d : Duties) (limit : ℕ) (history : List Entry) → IsLegal w limit history →
    IsDutiful w d history → (front : List Entry) → Begins history front → DutiesHold w d (state_of w front) (takings_of front)
