-- The leaf of each event.
use Rattle.std.specs.Prelude.{◌≡◌, ℕ, if◌then◌else◌, Option, Some, None, get_or}
use Rattle.flow_model.specs.Facts.{is_event}
use Rattle.flow_rules.specs.declared.leaf_table.LeafEvents.{LeafEvents}

-- the leaf that an event has, if it has one
abbrev pub leaf_in : LeafEvents → ℕ → Option ℕ
leaf_in table event = get_or table.leaves.items event None

-- no event has a leaf
abbrev pub IsBlank : LeafEvents → Type 0
IsBlank table = (event : ℕ) → leaf_in table event ≡ None

-- the leaf, if that is its event
abbrev pub if_on : ℕ → ℕ → Option ℕ → Option ℕ
if_on q leaf event = if is_event q event then Some leaf else None

-- the leaf of `q`, where that of the event is forgotten
abbrev pub without_leaf : Option ℕ → Option ℕ → ℕ → Option ℕ
without_leaf event before q = if is_event q event then None else before

-- the leaf, unless there is another
abbrev pub unless : Option ℕ → Option ℕ → Option ℕ
unless None leaf = leaf
unless (Some other) leaf = None
