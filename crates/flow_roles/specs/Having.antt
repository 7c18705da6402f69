-- Who has an event and who took a claim, as the code of a desk asks it.
use Rattle.std.specs.Prelude.{◌≡◌, ◌≢◌, ℕ, Bool, true, false, Some}
use Rattle.flow_model.specs.Facts.{event_at}
use Rattle.flow_model.specs.Takers.{takings_of, IsTakenBy}
use Rattle.flow_core.specs.Run.{schema, now}
use Rattle.flow_core.specs.Holding.{MayPost}
use Rattle.flow_roles.specs.Desked.{Desked}
use Rattle.flow_roles.specs.Answers.{IsHolder}

-- the user has a leaf of the event
abbrev pub HasEvent : Desked → ℕ → ℕ → Type 0
HasEvent d event by = (n : ℕ) × (event_at (schema d.run).labels n ≡ Some event) × IsTakenBy (now d.run) (takings_of d.run.history) n by

-- another user has one
abbrev pub IsWithAnother : Desked → ℕ → ℕ → Type 0
IsWithAnother d event by = (other : ℕ) × HasEvent d event other × (other ≢ by)

-- a result may be posted for the claim, late or not, and another user took it; or, where one may be posted, this user took it
abbrev pub IsOfAnother : Desked → ℕ → ℕ → Bool → Type 0
IsOfAnother d claim by true = MayPost d.run claim × ¬ (IsHolder d claim by)
IsOfAnother d claim by false = MayPost d.run claim → IsHolder d claim by
