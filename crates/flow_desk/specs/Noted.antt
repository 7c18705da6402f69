-- What boxes show where there are notes on leaves.
use Rattle.std.specs.Prelude.{◌++◌, ◌+◌, ◌∷◌, [], ℕ, List, codes}
use Rattle.flow_draw.specs.Lookup.{text_at}

-- a text, and behind it the note, if there is one
abbrev pub noted_text : List ℕ → List ℕ → List ℕ
noted_text text [] = text
noted_text text (b ∷ bs) = text ++ codes ": " ++ b ∷ bs

-- the texts from a place on, each with the note of its place
abbrev pub noted_from : ℕ → List (List ℕ) → List (List ℕ) → List (List ℕ)
noted_from place notes [] = []
noted_from place notes (text ∷ texts) = noted_text text (text_at notes place) ∷ noted_from (place + 1) notes texts

abbrev pub noted_texts : List (List ℕ) → List (List ℕ) → List (List ℕ)
noted_texts notes texts = noted_from 0 notes texts
