-- Which entry of a history did a leaf.
use Rattle.std.specs.Prelude.{◌≡◌, ◌<◌, ◌≤◌, ◌+◌, ℕ, List, [], ◌∷◌, ◌++◌, length, take}
use Rattle.flow_model.specs.declared.history.Entry.{Entry}
use Rattle.flow_model.specs.Lists.{◌∈◌}
use Rattle.flow_model.specs.Schema.{Schema}
use Rattle.flow_model.specs.Run.{state_of}

-- the journal after so many entries of the history
abbrev pub journal_at : Schema → List Entry → ℕ → List ℕ
journal_at w history count = (state_of w (take count history)).journal

-- the entry at that place put the leaf on the journal, and the leaf has stood there since
pub record IsDoneBy (w : Schema) (history : List Entry) (leaf entry : ℕ) : Type 0 where
  pub within : entry < length history
  pub put : journal_at w history (entry + 1) ≡ journal_at w history entry ++ leaf ∷ []
  pub since : (count : ℕ) → entry < count → count ≤ length history → leaf ∈ journal_at w history count

-- at that entry the journal got longer than the place, and it has been so since
pub record HasGrown (w : Schema) (history : List Entry) (place count entry : ℕ) : Type 0 where
  pub within : entry < count
  pub short : length (journal_at w history entry) ≤ place
  pub long : (later : ℕ) → entry < later → later ≤ count → place < length (journal_at w history later)
