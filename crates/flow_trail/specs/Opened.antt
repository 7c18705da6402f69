-- What opening a trail leaves on its disk, and when it tells a fault.
use Rattle.std.specs.Prelude.{◌≡◌, ◌⊎◌, ℕ, ◌+◌, ◌≤◌, true, List, Result, Err}
use Rattle.flow_trail.specs.declared.line.TrailEnd.{TrailEnd}
use Rattle.flow_trail.specs.declared.refusal.OpenRefusal.{OpenRefusal}
use Rattle.flow_trail.specs.declared.refusal.OpenRefusal.TheVariants.{DiskFault, BadLine, NoMemory}
use Rattle.flow_trail.specs.declared.refusal.ReadRefusal.{ReadRefusal}
use Rattle.flow_trail.specs.declared.refusal.ReadRefusal.TheVariants as read
use Rattle.flow_trail.specs.Lines.{Said, Says}
use Rattle.flow_trail.specs.Kept.{SaysEither}

-- why a trail is not opened that is not read
abbrev pub of_read : ReadRefusal → OpenRefusal
of_read (read.BadLine line) = BadLine line
of_read read.NoMemory = NoMemory

-- the count of faults rises, by one, exactly where it is the disk that failed
abbrev pub CountsDisk : {T : Type 0} → ℕ → ℕ → Result T OpenRefusal → Type 0
CountsDisk before now (Err DiskFault) = now ≡ before + 1
CountsDisk before now other = now ≡ before

-- the file is the other, or says what the other says, or that and this line more
abbrev pub SaysLike : TrailEnd → Said → List ℕ → List ℕ → Type 0
SaysLike e line other file = (file ≡ other) ⊎ ((saying : List Said) × Says e saying other × SaysEither e saying line file)

-- At each moment of the call a crash leaves what it might have left at its beginning, or what has P.
pub record Opens {D : Type 0} (moment : D → ℕ) (image : D → ℕ → List ℕ → Type 0) (old new : D) (P : List ℕ → Type 0) : Type 0 where
  pub later : moment old ≤ moment new
  pub each : (t : ℕ) (c : List ℕ) → moment old ≤ t → t ≤ moment new → image new t c → image old (moment old) c ⊎ P c

-- the lines tell so many entries, or one more in the last line, which has no entry
abbrev pub TellsCount : TrailEnd → ℕ → Type 0
TellsCount e count = (e.count ≡ count) ⊎ ((e.count ≡ count + 1) × (e.last_told ≡ true))
