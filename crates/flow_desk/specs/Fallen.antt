-- Why a history tells no run.
use Rattle.std.specs.Prelude.{ℕ, List}
use Rattle.flow_model.specs.declared.history.Entry.{Entry}
use Rattle.flow_model.specs.Schema.{Schema}
use Rattle.flow_desk.specs.declared.replay.Fallen.{Fallen}
use Rattle.flow_desk.specs.declared.replay.Fallen.TheVariants.{Illegal, NoMemory}
use Rattle.flow_desk.specs.Replay.{IsFirstIllegal}

-- an entry is the first that is not legal; of want of memory nothing is said
abbrev pub IsFallen : Schema → ℕ → List Entry → Fallen → Type 0
IsFallen w limit entries (Illegal index) = IsFirstIllegal w limit entries index
IsFallen w limit entries NoMemory = Unit {0}
