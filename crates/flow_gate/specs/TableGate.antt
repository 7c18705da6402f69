-- Outcomes as the rows of a table.
use Rattle.std.specs.Prelude.{ℕ, ◌==◌, ◌&&◌, if◌then◌else◌, List, [], ◌∷◌}
use Rattle.flow_model.specs.declared.history.Outcome.{Outcome}
use Rattle.flow_model.specs.declared.history.Outcome.TheVariants.{Done}

-- the outcome of the first row with that leaf and attempt; a task without a row is done
abbrev pub outcome_in : List (ℕ × ℕ × Outcome) → ℕ → ℕ → Outcome
outcome_in [] leaf attempt = Done
outcome_in (row ∷ rows) leaf attempt = if row.0 == leaf && (row.1 == attempt) then row.2 else outcome_in rows leaf attempt
