-- What writes do to the bytes that a sink holds, where the sink tells them.
use Rattle.std.specs.Prelude.{ℕ, ◌≤◌, ◌<◌, List, length, take, Option}
use Rattle.std.specs.Io.KnownBytes.{Appends}

-- a write of the first n bytes of a piece: one at least of a piece that is not empty
pub record TakesFront (held held' : Option (List ℕ)) (piece : List ℕ) (n : ℕ) : Type 0 where
  pub fits : n ≤ length piece
  pub gained : Appends held held' (take n piece)
  pub some : 0 < length piece → 0 < n

-- a front of the bytes was appended, and not all of them
abbrev pub AppendsPart : Option (List ℕ) → Option (List ℕ) → List ℕ → Type 0
AppendsPart held held' bytes = (n : ℕ) × (n < length bytes) × Appends held held' (take n bytes)
