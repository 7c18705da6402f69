-- Where a source is cut in two.
use Rattle.std.specs.Prelude.{ℕ, ◌+◌, min, Bool, ◌||◌, if◌then◌else◌, List, [], ◌∷◌, length, codes}
use Rattle.std.specs.Str.{bytes_eq}
use Rattle.flow_record.specs.Lines.{lines_of}

-- the line is %%, with or without a carriage return
abbrev pub is_divider : List ℕ → Bool
is_divider line = bytes_eq line (codes "%%") || bytes_eq line (codes "%%\r")

-- the lines from the place on are cut at the first mark: where it begins, and the place after its line feed
abbrev pub cut_from : ℕ → ℕ → List (List ℕ) → ℕ × ℕ
cut_from whole place [] = (whole, whole)
cut_from whole place (line ∷ lines) =
    if is_divider line then (place, min (place + length line + 1) whole)
    else cut_from whole (place + length line + 1) lines

-- where the first part of a source ends, and where the second begins
abbrev pub cut_of : List ℕ → ℕ × ℕ
cut_of source = cut_from (length source) 0 (lines_of source)
