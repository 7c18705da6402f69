-- What stands at the place of a record.
use Rattle.std.specs.Prelude.{◌≡◌, ℕ, true, false, List}
use Rattle.flow_model.specs.declared.history.Entry.{Entry}
use Rattle.flow_record.specs.History.{IsSmall}
use Rattle.flow_keep.specs.Records.{is_open, body_at, body_of}
use Rattle.flow_keep.specs.declared.slot.Slot.{Slot}
use Rattle.flow_keep.specs.declared.slot.Slot.TheVariants.{Shut, Unreadable, Holds}

-- the bytes from there on begin so
abbrev pub IsSlot : List ℕ → Slot → Type 0
IsSlot bytes Shut = is_open bytes ≡ false
IsSlot bytes Unreadable = (is_open bytes ≡ true) × ((entry : Entry) → IsSmall entry → ¬ (body_of entry ≡ body_at bytes))
IsSlot bytes (Holds entry) = (is_open bytes ≡ true) × IsSmall entry × (body_of entry ≡ body_at bytes)

-- the numbers of an entry there are of 32 bits
abbrev pub HoldsSmall : Slot → Type 0
HoldsSmall (Holds entry) = IsSmall entry
HoldsSmall other = Unit {0}
