-- Places for the events of some leaves.
use Rattle.std.specs.Prelude.{◌<◌, ℕ, List, length, get_or, IfSome}
use Rattle.flow_model.specs.declared.labels.Label.{Label}
use Rattle.flow_model.specs.Facts.{event_at}

-- the events of the first leaves are below a bound
abbrev pub HasRoomTo : List Label → List ℕ → ℕ → ℕ → Type 0
HasRoomTo labels leaves count room = (i : ℕ) → i < count → IfSome (event_at labels (get_or leaves i 0)) (λ event. event < room)

-- so are the events of all of them
abbrev pub HasRoom : List Label → List ℕ → ℕ → Type 0
HasRoom labels leaves room = HasRoomTo labels leaves (length leaves) room
