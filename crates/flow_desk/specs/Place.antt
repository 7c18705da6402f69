-- Lines and columns.
use Rattle.std.specs.Prelude.{◌≡◌, ◌+◌, ℕ, ◌==◌, ◌⊎◌, List, [], ◌∷◌, ◌++◌, length, take, count_by}
use Rattle.flow_model.specs.Lists.{Each}
use Rattle.std.specs.Prelude.{◌≢◌}

-- how many line feeds the text has
abbrev pub feeds : List ℕ → ℕ
feeds text = count_by (λ b. b == 10) text

-- the line of a place, from 1: one more than there are line feeds before it
abbrev pub line_of : List ℕ → ℕ → ℕ
line_of text place = feeds (take place text) + 1

-- the text is empty, or its last byte is a line feed
abbrev pub EndsLine : List ℕ → Type 0
EndsLine text = (text ≡ []) ⊎ ((front : List ℕ) × (text ≡ front ++ 10 ∷ []))

-- The column of what comes behind the text, from 1: the text is some lines, each with its line feed, and so many bytes less one.
pub record IsColumn (text : List ℕ) (column : ℕ) : Type 0 where
  pub lines : List ℕ
  pub rest : List ℕ
  pub split : text ≡ lines ++ rest
  pub ended : EndsLine lines
  pub no_feed : Each (λ b. b ≢ 10) rest
  pub counted : column ≡ length rest + 1
