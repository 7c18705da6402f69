-- Lines of a text.
use Rattle.std.specs.Prelude.{◌≡◌, ℕ, ◌==◌, ◌⊎◌, List, [], ◌∷◌, ◌++◌, count_by, take}
use Rattle.std.specs.List.{prefix_len}
use Rattle.flow_lex.specs.Bytes.{is_in_line}

-- the bytes up to the first line feed
abbrev pub first_line : List ℕ → List ℕ
first_line text = take (prefix_len is_in_line text) text

-- how many line feeds the text has
abbrev pub feeds : List ℕ → ℕ
feeds text = count_by (λ b. b == 10) text

-- the text is empty, or its last byte is a line feed
abbrev pub EndsLine : List ℕ → Type 0
EndsLine text = (text ≡ []) ⊎ ((front : List ℕ) × (text ≡ front ++ 10 ∷ []))
