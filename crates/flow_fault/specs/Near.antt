-- Words that were perhaps meant.
use Rattle.std.specs.Prelude.{ℕ, Bool, false, ◌&&◌, ◌||◌, ◌==◌, List, ◌∷◌, drop}
use Rattle.std.specs.List.{prefix_len, zip}
use Rattle.std.specs.Str.{bytes_eq}

-- how many bytes the words share at their fronts
abbrev pub shared : List ℕ → List ℕ → ℕ
shared word other = prefix_len (λ pair. pair.0 == pair.1) (zip word other)

-- they begin with the same two bytes, the other way round, and are the same behind them
abbrev pub is_swapped : List ℕ → List ℕ → Bool
is_swapped (a ∷ b ∷ word) (c ∷ d ∷ other) = (a == d) && (b == c) && bytes_eq word other
is_swapped word other = false

-- at their fronts a byte is another, is too many or is missing, or two stand the other way round; else the words are the same
abbrev pub is_edited : List ℕ → List ℕ → Bool
is_edited word other =
    bytes_eq (drop 1 word) (drop 1 other) || bytes_eq (drop 1 word) other || bytes_eq word (drop 1 other) || is_swapped word other

-- behind what they share, the words differ at one place, if at all
abbrev pub is_near : List ℕ → List ℕ → Bool
is_near word other = is_edited (drop (shared word other) word) (drop (shared word other) other)
