-- Lists of leaves with which good traces begin.
use Rattle.std.specs.Prelude.{List, ℕ}
use Rattle.flow_model.specs.Lists.{Begins}
use Rattle.flow_model.specs.Schema.{Schema, IsGood}

-- some good trace begins with the list
abbrev pub IsFront : Schema → List ℕ → Type 0
IsFront w list = (t : List ℕ) × IsGood w t × Begins t list
