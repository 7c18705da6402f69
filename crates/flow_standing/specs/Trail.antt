-- Which entries of a history put the leaves on its journal.
use Rattle.std.specs.Prelude.{◌≡◌, ◌<◌, ◌≤◌, ℕ, List, length, take, map, Option, Some, None, slice_get}
use Rattle.flow_model.specs.declared.history.Entry.{Entry}
use Rattle.flow_model.specs.declared.history.Step.{Step}
use Rattle.flow_model.specs.declared.history.Step.TheVariants.{Done, Did}
use Rattle.flow_model.specs.Schema.{Schema}
use Rattle.flow_model.specs.Run.{leaf_of_claim, state_of}
use Rattle.flow_standing.specs.declared.trail.Doing.{Doing}

-- what a caller's step puts on the journal, by the leaves of the claims
abbrev pub doing_by : (ℕ → ℕ) → ℕ → ℕ → Step → Option Doing
doing_by leaf_of place by (Done claim) = Some (record { leaf = leaf_of claim; claim = Some claim; by = by; place = place })
doing_by leaf_of place by (Did leaf) = Some (record { leaf = leaf; claim = None; by = by; place = place })
doing_by leaf_of place by other = None

-- the entry at its place put the leaf on the journal
abbrev pub IsMade : Schema → List Entry → Doing → Type 0
IsMade w history doing =
    (entry : Entry) × (slice_get history doing.place ≡ Some entry)
    × (doing_by (leaf_of_claim (state_of w history)) doing.place entry.by entry.step ≡ Some doing)

-- how long the journal was after so many entries
abbrev pub length_after : Schema → List Entry → ℕ → ℕ
length_after w history count = length (state_of w (take count history)).journal

-- what the entry at the place put on the journal stood there, up to so many entries: the journal was always longer than before it
abbrev pub Stood : Schema → List Entry → ℕ → ℕ → Type 0
Stood w history place count = (k : ℕ) → place < k → k ≤ count → length_after w history place < length_after w history k

-- an entry put it on the journal, at that index, and it stood there up to so many entries
pub record StandsAt (w : Schema) (history : List Entry) (count index : ℕ) (doing : Doing) : Type 0 where
  pub before : doing.place < count
  pub made : IsMade w history doing
  pub index_is : length_after w history doing.place ≡ index
  pub stood : Stood w history doing.place count

-- of each leaf of the journal, the entry that put it there
pub record AreDoings (w : Schema) (history : List Entry) (doings : List Doing) : Type 0 where
  pub leaves : map (λ (doing : Doing). doing.leaf) doings ≡ (state_of w history).journal
  pub each : (index : ℕ) (doing : Doing) → slice_get doings index ≡ Some doing → StandsAt w history (length history) index doing
