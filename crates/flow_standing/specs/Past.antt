-- What a history leaves beside what a core tells of it: the bans, and of each leaf whether the last claim on it failed.
use Rattle.std.specs.Prelude.{◌≡◌, ◌<◌, ℕ, Bool, true, false, ◌==◌, if◌then◌else◌, List, [], ◌∷◌, length, Some, slice_get}
use Rattle.flow_model.specs.declared.history.Entry.{Entry}
use Rattle.flow_model.specs.declared.history.Step.{Step}
use Rattle.flow_model.specs.declared.history.Step.TheVariants.{Took, Failed}
use Rattle.flow_model.specs.Schema.{Schema}
use Rattle.flow_model.specs.Run.{RunState, first_state, leaf_of_claim, next_state, state_of}

-- whether the last claim on the leaf failed, after one step more
abbrev pub next_failed : RunState → ℕ → Bool → Step → Bool
next_failed s leaf failed (Took claim other) = if other == leaf then false else failed
next_failed s leaf failed (Failed claim effect) = if leaf_of_claim s claim == leaf then true else failed
next_failed s leaf failed other = failed

-- the same after the entries, one after another
abbrev pub failed_after : Schema → RunState → ℕ → Bool → List Entry → Bool
failed_after w s leaf failed [] = failed
failed_after w s leaf failed (entry ∷ entries) = failed_after w (next_state w s entry.step) leaf (next_failed s leaf failed entry.step) entries

-- whether the last claim on the leaf failed, in the whole history
abbrev pub has_failed : Schema → List Entry → ℕ → Bool
has_failed w history leaf = failed_after w first_state leaf false history

-- the bans are those of the state that the history leaves, and of each leaf it is known whether the last claim on it failed
pub record IsPast (w : Schema) (history : List Entry) (bans : List (ℕ × ℕ)) (failed : List Bool) : Type 0 where
  pub bans_are : bans ≡ (state_of w history).bans
  pub count : length failed ≡ length w.labels
  pub failed_are : (leaf : ℕ) → leaf < length w.labels → slice_get failed leaf ≡ Some (has_failed w history leaf)
