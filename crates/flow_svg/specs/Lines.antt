-- Long texts in lines.
use Rattle.std.specs.Prelude.{ℕ, zero, suc, ◌+◌, ◌==◌, nat_le, if◌then◌else◌, List, [], ◌∷◌, ◌++◌, length, take, drop, get_or, codes}
use Rattle.flow_svg.specs.declared.lines.TheConstants.{LINE}
use Rattle.flow_svg.specs.Element.{words_text}

-- the place behind the last blank among the first n bytes; where none of them is a blank, the one behind a full line
unfoldable pub blank_end : List ℕ → ℕ → ℕ → ℕ
blank_end text full zero = full
blank_end text full (suc n) = if get_or text n 0 == 32 then suc n else blank_end text full n

-- a line ends with the text or behind a blank, and is no longer than may be
abbrev pub line_end : List ℕ → ℕ
line_end text = if nat_le (length text) LINE then length text else blank_end text LINE LINE

-- so many lines at most
unfoldable pub lines_in : ℕ → List ℕ → List (List ℕ)
lines_in zero text = []
lines_in (suc n) [] = []
lines_in (suc n) (b ∷ bs) = take (line_end (b ∷ bs)) (b ∷ bs) ∷ lines_in n (drop (line_end (b ∷ bs)) (b ∷ bs))

-- the text in lines, of which there are no more than bytes
abbrev pub wrapped : List ℕ → List (List ℕ)
wrapped text = lines_in (length text) text

unfoldable pub line_text : ℕ → List ℕ → List ℕ
line_text y line = words_text (codes "note") 40 y 0 line ++ codes "\n"

-- one under another
abbrev pub lines_text : ℕ → List (List ℕ) → List ℕ
lines_text y [] = []
lines_text y (line ∷ lines) = line_text y line ++ lines_text (y + 20) lines
