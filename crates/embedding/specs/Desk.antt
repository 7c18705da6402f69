-- What the desk answers.
use Rattle.std.specs.Prelude.{ℕ, Bool, true, false, ◌==◌, nat_le, unwrap_or, slice_get, if◌then◌else◌, List, [], ◌∷◌, codes}
use Rattle.std.specs.Str.{bytes_eq}
use Rattle.flow_model.specs.declared.history.Outcome.{Outcome}
use Rattle.flow_model.specs.declared.history.Outcome.TheVariants.{Done, Failed}
use Rattle.embedding.specs.declared.desk.Desk.{Desk}
use Rattle.embedding.specs.declared.desk.Task.{Task}
use Rattle.embedding.specs.declared.desk.Task.TheVariants.{CheckCredit, ReserveStock, Other}

-- the task of the event of that name
abbrev pub task_named : List ℕ → Task
task_named name =
    if bytes_eq name (codes "credit_ok") then CheckCredit else (if bytes_eq name (codes "reserve_stock") then ReserveStock else Other)

-- the task of the event of that number
abbrev pub task_at : List Task → ℕ → Task
task_at tasks event = unwrap_or (slice_get tasks event) Other

-- how much a table has under a number, by its first row with it: none, where there is no such row
abbrev pub amount_of : List (ℕ × ℕ) → ℕ → ℕ
amount_of [] number = 0
amount_of (row ∷ rows) number = if row.0 == number then row.1 else amount_of rows number

-- a task is done where it may be
abbrev pub outcome_if : Bool → Outcome
outcome_if true = Done
outcome_if false = Failed

-- credit is given up to the customer's limit, stock is reserved as far as it goes, and all else is done
abbrev pub answer_to : Desk → Task → Outcome
answer_to desk CheckCredit = outcome_if (nat_le desk.amount (amount_of desk.limits.now desk.customer))
answer_to desk ReserveStock = outcome_if (nat_le desk.pieces (amount_of desk.stock.now desk.article))
answer_to desk Other = Done
