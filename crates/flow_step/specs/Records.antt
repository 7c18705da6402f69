-- A history as bytes: sixteen an entry, an open gate and what a kept file has behind it.
use Rattle.std.specs.Prelude.{◌+◌, ◌/◌, ℕ, List, [], ◌∷◌, ◌++◌, min, length, Option, None, Some}
use Rattle.flow_model.specs.declared.history.Entry.{Entry}
use Rattle.flow_model.specs.declared.limits.TheConstants.{MOST_ENTRIES}
use Rattle.flow_keep.specs.Records.{body_of}

abbrev pub record_of : Entry → List ℕ
record_of entry = 1 ∷ body_of entry

-- the records of these entries, one after another
abbrev pub records_of : List Entry → List ℕ
records_of [] = []
records_of (entry ∷ entries) = record_of entry ++ records_of entries

-- the entry, where there is one
abbrev pub entries_in : Option Entry → List Entry
entries_in None = []
entries_in (Some entry) = entry ∷ []

-- a run that goes on from these bytes has room for one entry more, up to the most
abbrev pub room_for : List ℕ → ℕ
room_for history = min (length history / 16 + 1) MOST_ENTRIES
