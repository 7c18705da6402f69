-- The words of a line.
use Rattle.std.specs.Prelude.{ℕ, Bool, false, not, ◌||◌, ◌==◌, if◌then◌else◌, List, [], ◌∷◌}
use Rattle.flow_record.specs.Lines.{onto_first}

-- a space or a tab
abbrev pub is_blank : ℕ → Bool
is_blank b = (b == 32) || (b == 9)

-- the text begins with a byte that is no blank
abbrev pub begins_in_word : List ℕ → Bool
begins_in_word [] = false
begins_in_word (b ∷ bs) = not (is_blank b)

-- the words of a line, with blanks before, between and after them
abbrev pub words_of : List ℕ → List (List ℕ)
words_of [] = []
words_of (b ∷ bs) =
    if is_blank b then words_of bs
    else if begins_in_word bs then onto_first b (words_of bs)
    else (b ∷ []) ∷ words_of bs

-- the word before the others, where it is not empty
abbrev pub with_word : List ℕ → List (List ℕ) → List (List ℕ)
with_word [] words = []
with_word (b ∷ bs) words = (b ∷ bs) ∷ words
