-- Duties: who may take what, beside or after what.
use Rattle.std.specs.Prelude.{◌≡◌, ◌≢◌, ℕ, List, [], ◌∷◌, ◌++◌, Some, slice_get, ◌⊎◌}
use Rattle.flow_model.specs.declared.history.Entry.{Entry}
use Rattle.flow_model.specs.declared.history.Step.TheVariants.{Took}
use Rattle.flow_model.specs.Lists.{◌∈◌}
use Rattle.flow_model.specs.Facts.{event_at}
use Rattle.flow_model.specs.Schema.{Schema}
use Rattle.flow_model.specs.Run.{RunState, state_of}
use Rattle.flow_model.specs.Takers.{Takings, takings_of, IsTakenBy}

pub record Duties : Type 0 where
  -- a user and a role that has them
  pub members : List (ℕ × ℕ)
  -- a role and an event that it is allowed
  pub allowed : List (ℕ × ℕ)
  -- two events whose tasks are for different users, and two whose tasks are for one
  pub separate : List (ℕ × ℕ)
  pub bound : List (ℕ × ℕ)

-- some role that has the user is allowed the event
abbrev pub HasRole : Duties → ℕ → ℕ → Type 0
HasRole d user event = (role : ℕ) × ((user, role) ∈ d.members) × ((role, event) ∈ d.allowed)

-- the constraint of that number is of the two events, in either order
abbrev pub IsConstraintOf : List (ℕ × ℕ) → ℕ → ℕ → ℕ → Type 0
IsConstraintOf pairs i e f = (slice_get pairs i ≡ Some (e, f)) ⊎ (slice_get pairs i ≡ Some (f, e))

-- the user has a leaf of the other event
abbrev pub IsSeparated : Schema → Duties → RunState → Takings → ℕ → ℕ → ℕ → Type 0
IsSeparated w d s t user event i =
    (f n : ℕ) × IsConstraintOf d.separate i event f × (event_at w.labels n ≡ Some f) × IsTakenBy s t n user

-- another has a leaf of the other event
abbrev pub IsBoundElsewhere : Schema → Duties → RunState → Takings → ℕ → ℕ → ℕ → Type 0
IsBoundElsewhere w d s t user event i =
    (f n other : ℕ) × IsConstraintOf d.bound i event f × (event_at w.labels n ≡ Some f) × IsTakenBy s t n other × (other ≢ user)

-- duties leave the event to the user
pub record IsLeft (w : Schema) (d : Duties) (s : RunState) (t : Takings) (user event : ℕ) : Type 0 where
  pub role : HasRole d user event
  pub apart : (i : ℕ) → ¬ (IsSeparated w d s t user event i)
  pub together : (i : ℕ) → ¬ (IsBoundElsewhere w d s t user event i)

-- each claim was left to its taker when it was given
abbrev pub IsDutiful : Schema → Duties → List Entry → Type 0
IsDutiful w d history = (earlier later : List Entry) (by claim leaf event : ℕ) → history ≡ earlier ++ record { by = by; step = Took claim leaf } ∷ later →
    event_at w.labels leaf ≡ Some event → IsLeft w d (state_of w earlier) (takings_of earlier) by event

-- the leaves that are done or under a claim have takers that some role allows; of two such leaves different ones, or the same, where a
-- constraint of their events asks it
pub record DutiesHold (w : Schema) (d : Duties) (s : RunState) (t : Takings) : Type 0 where
  pub allowed : (n user event : ℕ) → event_at w.labels n ≡ Some event → IsTakenBy s t n user → HasRole d user event
  pub apart : (n m user other e f i : ℕ) → event_at w.labels n ≡ Some e → event_at w.labels m ≡ Some f → n ≢ m → IsConstraintOf d.separate i e f →
      IsTakenBy s t n user → IsTakenBy s t m other → user ≢ other
  pub together : (n m user other e f i : ℕ) → event_at w.labels n ≡ Some e → event_at w.labels m ≡ Some f → n ≢ m → IsConstraintOf d.bound i e f →
      IsTakenBy s t n user → IsTakenBy s t m other → user ≡ other
