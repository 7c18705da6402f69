-- What is asked of a workflow and its policy, and what is told.
use Rattle.std.specs.Prelude.{◌≡◌, ◌≤◌, ◌*◌, ℕ, List, [], length, Some}
use Rattle.flow_model.specs.Facts.{event_at}
use Rattle.flow_model.specs.Lists.{◌∈◌}
use Rattle.flow_model.specs.Run.{CanTake, IsLegal}
use Rattle.flow_plan.specs.Compilation.{Compilation, IsCompiled}
use Rattle.flow_plan.specs.Sampled.{Sampled}
use Rattle.flow_core.specs.Run.{schema, now}
use Rattle.flow_roles.specs.Desked.{Desked, KeepsDuties}
use Rattle.flow_roles.specs.Having.{HasEvent}
use Rattle.flow_roles.specs.Answers.{IsLeftTo}
use Rattle.flow_case.specs.Ruled.{Ruled}
use Rattle.flow_stages.specs.declared.question.Question.{Question}
use Rattle.flow_stages.specs.declared.question.Question.TheVariants.{Both, Unmanned}
use Rattle.flow_stages.specs.declared.search.Searched.{Searched}
use Rattle.flow_stages.specs.declared.search.Searched.TheVariants as searched
use Rattle.flow_stages.specs.Asked.{IsShown}
pub use Rattle.flow_stages.specs.Fitting.{HoldsRoles}
use Rattle.flow_questions.specs.declared.both.Shared.{Shared}
use Rattle.flow_questions.specs.declared.both.Shared.TheVariants as shared
use Rattle.flow_questions.specs.declared.manned.Manning.{Manning}
use Rattle.flow_questions.specs.declared.manned.Manning.TheVariants as manning

-- one user has both events: of each a leaf is done, or under a claim of his that is out
abbrev pub HasBoth : Desked → ℕ → ℕ → ℕ → Type 0
HasBoth d one two user = HasEvent d one user × HasEvent d two user

-- an event's leaf may be taken, and duties leave the event to nobody
pub record IsUnmanned (d : Desked) (leaf : ℕ) : Type 0 where
  pub event : ℕ
  pub of_leaf : event_at (schema d.run).labels leaf ≡ Some event
  pub can_take : CanTake (schema d.run) (now d.run) leaf
  pub nobody : (user : ℕ) → ¬ (IsLeftTo d user event)

-- the run is one of the same workflow under the same policy
abbrev pub IsRunOfSame : Ruled → Ruled → Type 0
IsRunOfSame old new = (new.desk.run.definition ≡ old.desk.run.definition) × (new.desk.assigned ≡ old.desk.assigned)

-- a run of the case's workflow under its policy: each entry was legal, from none on, and duties hold after every step
pub record IsRunUnder (c : Ruled) (d : Desked) : Type 0 where
  pub workflow : d.run.definition ≡ c.desk.run.definition
  pub policy : d.assigned ≡ c.desk.assigned
  pub legal : IsLegal (schema d.run) d.run.limit d.run.history
  pub dutiful : KeepsDuties d

-- in no such run one user has both events
abbrev pub NobodyHasBoth : Ruled → ℕ → ℕ → Type 0
NobodyHasBoth c one two = (d : Desked) → IsRunUnder c d → (user : ℕ) → ¬ (HasBoth d one two user)

-- in each such run, where an event's leaf can be taken, duties leave the event to somebody
abbrev pub AlwaysStaffed : Ruled → Type 0
AlwaysStaffed c = (d : Desked) → IsRunUnder c d → (leaf event : ℕ) → CanTake (schema d.run) (now d.run) leaf → event_at (schema d.run).labels leaf ≡ Some event →
    (user : ℕ) × IsLeftTo d user event

-- what is asked is so in no such run
abbrev pub IsNeverIn : Ruled → Question → Type 0
IsNeverIn c (Both one two) = NobodyHasBoth c one two
IsNeverIn c Unmanned = AlwaysStaffed c

-- these leaves of an option can be done in turn, these users may have their events, and what is asked is so after them
pub record IsFoundBy (c : Ruled) (question : Question) (leaves : List ℕ) (takers : List (ℕ × ℕ)) (event : ℕ) : Type 0 where
  pub compilation : Compilation
  pub compiled : IsCompiled (schema c.desk.run) compilation
  pub kept : Sampled
  pub of : kept ∈ compilation.plans
  pub shown : IsShown (schema c.desk.run) c.desk.assigned.duties kept.plan question leaves takers event

-- some leaves can, and some users may
abbrev pub IsFoundIn : Ruled → Question → Type 0
IsFoundIn c question = (leaves : List ℕ) × (takers : List (ℕ × ℕ)) × (event : ℕ) × IsFoundBy c question leaves takers event

-- the run has no entry yet, and room for two of each leaf
abbrev pub IsFresh : Ruled → Type 0
IsFresh c = (c.desk.run.history ≡ []) × (2 * length (schema c.desk.run).labels ≤ c.desk.run.limit)

-- what a search through the options tells of the case, with so many states left
abbrev pub LooksIn : Ruled → Question → ℕ → Searched → Type 0
LooksIn c question left searched.Nothing = IsNeverIn c question
LooksIn c question left (searched.Shown leaves takers event) = IsFoundBy c question leaves.items takers.items event
LooksIn c question left searched.Spent = left ≡ 0

-- where a user is told, the run shows it; never is told where no run does; it is undecided only where all states were looked at; and unmade
-- where an option shows it, and the run does not: never of a run that is fresh
abbrev pub TellsOfBoth : Ruled → ℕ → ℕ → ℕ → Shared → Type 0
TellsOfBoth c one two states (shared.By user) = HasBoth c.desk one two user
TellsOfBoth c one two states shared.Never = NobodyHasBoth c one two
TellsOfBoth c one two states (shared.Undecided looked) = looked ≡ states
TellsOfBoth c one two states shared.Unmade = IsFoundIn c (Both one two)

-- where a leaf is told, the run ends there; always is told where no run ends so; it is undecided only where all states were looked at; and
-- unmade where an option shows it, and the run does not: never of a run that is fresh
abbrev pub TellsOfStaff : Ruled → ℕ → Manning → Type 0
TellsOfStaff c states (manning.Unmanned leaf) = IsUnmanned c.desk leaf
TellsOfStaff c states manning.Always = AlwaysStaffed c
TellsOfStaff c states (manning.Undecided looked) = looked ≡ states
TellsOfStaff c states manning.Unmade = IsFoundIn c Unmanned
