-- Texts that people read.
use Rattle.std.specs.Prelude.{ℕ, ◌+◌, ◌-◌, ◌^◌, min, zero, suc, Bool, ◌==◌, ◌&&◌, nat_le, if◌then◌else◌, List, [], ◌++◌, length, map, replicate, codes}

-- from the blank to `~`
abbrev pub is_printable : ℕ → Bool
is_printable byte = nat_le 32 byte && nat_le byte 126

-- in one column: a tab as a blank, and what cannot be shown as `?`
abbrev pub shown_byte : ℕ → ℕ
shown_byte byte = if byte == 9 then 32 else if is_printable byte then byte else 63

abbrev pub shown : List ℕ → List ℕ
shown bytes = map shown_byte bytes

-- nothing before the first of things, and the words before the others
abbrev pub between_text : ℕ → List ℕ → List ℕ
between_text zero words = []
between_text (suc index) words = words

abbrev pub blanks : ℕ → List ℕ
blanks count = replicate count 32

-- the text, blanks up to the width, and two more
abbrev pub column_text : List ℕ → ℕ → List ℕ
column_text text width = text ++ blanks (width - length text) ++ codes "  "

-- the number, from 1, of what stands at the place
abbrev pub ordinal : ℕ → ℕ
ordinal place = min (place + 1) (2 ^ 64 - 1)
