-- The texts of cells.
use Rattle.std.specs.Prelude.{ℕ, zero, suc, List, [], ◌∷◌, ◌++◌, codes}

-- nothing before the first of texts, and a comma before the others
abbrev pub before_text : ℕ → List ℕ
before_text zero = []
before_text (suc place) = codes ", "

-- the texts in order, of which the first stands at that place
abbrev pub listed : ℕ → List (List ℕ) → List ℕ
listed place [] = []
listed place (text ∷ texts) = (before_text place ++ text) ++ listed (suc place) texts
