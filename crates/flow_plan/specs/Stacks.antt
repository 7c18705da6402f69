-- A stack, the last one on top.
use Rattle.std.specs.Prelude.{List, [], ◌∷◌}

-- there is a top, and P of it and the others
abbrev pub WithTop : {A : Type 0} → List A → (A → List A → Type 0) → Type 0
WithTop [] P = ⊥
WithTop (x ∷ more) P = P x more
