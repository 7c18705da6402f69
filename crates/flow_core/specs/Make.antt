-- An entry that is to be made as it is, as one of a history that was kept or sent.
use Rattle.std.specs.Prelude.{◌≡◌, ℕ, Bool, true, false}
use Rattle.flow_model.specs.declared.history.Step.{Step}
use Rattle.flow_model.specs.Run.{IsAllowed}
use Rattle.flow_core.specs.Run.{Run, schema, now, with_entry, IsUncommitted, HasEntryLeft}

-- the entry may be made next
pub record CanMake (r : Run) (step : Step) : Type 0 where
  pub going : IsUncommitted r
  pub room : HasEntryLeft r
  pub allowed : IsAllowed (schema r) (now r) step

-- it is made where it may be, and else the run stays as it is
abbrev pub Makes : Run → ℕ → Step → Bool → Run → Type 0
Makes r by step true after = CanMake r step × (after ≡ with_entry r by step)
Makes r by step false after = ¬ (CanMake r step) × (after ≡ r)
