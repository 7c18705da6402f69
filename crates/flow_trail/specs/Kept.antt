-- What the file of a trail holds.
use Rattle.std.specs.Prelude.{◌≡◌, ◌⊎◌, ℕ, List, [], ◌∷◌, ◌++◌, take}
use Rattle.flow_trail.specs.declared.line.TrailEnd.{TrailEnd}
use Rattle.flow_trail.specs.Whole.{IsSettled}
use Rattle.flow_trail.specs.Lines.{Said, Says, trail_text}

-- the file says this, or this and one line more
abbrev pub SaysEither : TrailEnd → List Said → Said → List ℕ → Type 0
SaysEither e saying said file = Says e saying file ⊎ Says e (saying ++ said ∷ []) file

-- the lines stand up to the place, with a shut gate behind them, and a crash leaves just these bytes
pub record HoldsLines (e : TrailEnd) (saying : List Said) (place : ℕ) (seen : List ℕ) (image : List ℕ → Type 0) : Type 0 where
  pub settled : IsSettled place seen image
  pub lines : take place seen ≡ trail_text e saying
