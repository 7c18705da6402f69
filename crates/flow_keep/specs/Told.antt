-- What the bytes of records tell: one entry, one history.
use Rattle.std.specs.Prelude.{◌≡◌, ℕ, List}
use Rattle.flow_model.specs.declared.history.Entry.{Entry}
use Rattle.flow_model.specs.Lists.{Each}
use Rattle.flow_record.specs.History.{IsSmall}
use Rattle.flow_keep.specs.Records.{body_of, Keeps}

-- two entries with the same bytes are one
abbrev pub EntriesAreTold : Type 0
EntriesAreTold = (a b : Entry) → IsSmall a → IsSmall b → body_of a ≡ body_of b → a ≡ b

-- two histories that one file keeps are one
abbrev pub HistoriesAreTold : Type 0
HistoriesAreTold = (file : List ℕ) (a b : List Entry) → Each IsSmall a → Each IsSmall b → Keeps a file → Keeps b file → a ≡ b
