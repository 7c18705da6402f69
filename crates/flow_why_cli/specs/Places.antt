-- Where things stand in a text.
use Rattle.std.specs.Prelude.{ℕ, ◌<◌, List, length}
use Rattle.flow_model.specs.Lists.{Each}
use Rattle.flow_why_cli.specs.declared.leaf_places.Atom.{Atom}

-- bytes of the text stand at these places
abbrev pub AreIn : List ℕ → List ℕ → Type 0
AreIn text places = Each (λ place. place < length text) places

abbrev pub AtomsAreIn : List ℕ → List Atom → Type 0
AtomsAreIn text atoms = Each (λ (atom : Atom). atom.place < length text) atoms
