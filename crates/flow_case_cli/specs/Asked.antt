-- What a case leaves on its two disks when it is asked.
use Rattle.std.specs.Prelude.{◌≡◌, ◌⊎◌, ℕ, Bool, false, List, [], ◌∷◌, ◌++◌}
use Rattle.flow_disk.specs.Disk.{Leaves}
use Rattle.flow_trail.specs.declared.line.TrailEnd.{TrailEnd}
use Rattle.flow_trail.specs.Lines.{Said, Says}
use Rattle.flow_trail.specs.Kept.{SaysEither}

-- The trail is told one line. At each moment a crash leaves a file that says the lines before it, or these and this one; afterwards, unless the case is
-- broken, just these and this one.
pub record TellsLine {T : Type 0} (tells : Type 0) (moment : T → ℕ) (image : T → ℕ → List ℕ → Type 0) (start : TrailEnd) (before : List Said) (said : Said) (old new : T) (after : List Said) (broken : Bool) : Type 0 where
  pub any_moment : tells → Leaves moment image old new (SaysEither start before said)
  pub told : broken ≡ false → after ≡ before ++ said ∷ []
  pub durable : tells → broken ≡ false → (c : List ℕ) → image new (moment new) c → Says start (before ++ said ∷ []) c

-- The disk of the run is left alone until a crash of the disk of the trail leaves just the lines with the one that is told.
abbrev pub IsToldFirst : {D T : Type 0} → Type 0 → (T → ℕ) → (T → ℕ → List ℕ → Type 0) → TrailEnd → List Said → Said → D → D → T → Type 0
IsToldFirst tells moment image start before said old new trail =
    (new ≡ old) ⊎ (tells → (c : List ℕ) → image trail (moment trail) c → Says start (before ++ said ∷ []) c)
