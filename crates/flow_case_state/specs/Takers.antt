-- Who may take an event now, of users that are numbered from 1.
use Rattle.std.specs.Prelude.{◌≡◌, ◌≤◌, ℕ, Some}
use Rattle.flow_model.specs.Facts.{event_at}
use Rattle.flow_core.specs.Run.{schema}
use Rattle.flow_roles.specs.Desked.{Desked}
use Rattle.flow_roles.specs.Answers.{IsLeftTo}

-- one of so many users, to whom duties leave the event
pub record IsTaker (d : Desked) (users event user : ℕ) : Type 0 where
  pub from : 1 ≤ user
  pub to : user ≤ users
  pub left : IsLeftTo d user event

-- the same, of the event of a leaf
abbrev pub IsTakerAt : Desked → ℕ → ℕ → ℕ → Type 0
IsTakerAt d users leaf user = (event : ℕ) × (event_at (schema d.run).labels leaf ≡ Some event) × IsTaker d users event user

-- the leaf is that of a task, and duties leave it to none of the users
abbrev pub IsForNone : Desked → ℕ → ℕ → Type 0
IsForNone d users leaf =
    (event : ℕ) × (event_at (schema d.run).labels leaf ≡ Some event) × ((user : ℕ) → ¬ (IsTaker d users event user))
