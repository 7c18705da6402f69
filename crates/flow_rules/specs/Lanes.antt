-- In which of up to 64 maps from events to leaves an event has a leaf: a bit a lane.
use Rattle.std.specs.Prelude.{◌≡◌, ℕ, ◌==◌, Bool, List, Option, get_or, is_some}
use Rattle.std.specs.Int.{bit_at}
use Rattle.flow_rules.specs.declared.lanes.Lanes.{Lanes}

-- the lanes in which an event has a leaf, as a word
abbrev pub word_of : Lanes → ℕ → ℕ
word_of lanes event = get_or lanes.words.items event 0

-- whether an event is marked in a lane of these words
abbrev pub is_marked : List ℕ → ℕ → ℕ → Bool
is_marked words lane event = bit_at (get_or words event 0) lane == 1

-- whether it has one in a lane
abbrev pub has_event : Lanes → ℕ → ℕ → Bool
has_event lanes = is_marked lanes.words.items

-- the lane shows the events of a map
abbrev pub Shows : Lanes → ℕ → (ℕ → Option ℕ) → Type 0
Shows lanes lane leaf = (event : ℕ) → has_event lanes lane event ≡ is_some (leaf event)
