-- How the names of activities and events are compared: by how they are spelled.
use Rattle.std.specs.Prelude.{◌==◌, ◌||◌, ℕ, Bool, List, [], ◌∷◌, if◌then◌else◌, nat_le, flat_map}
use Rattle.std.specs.Char.{is_ascii_alphanumeric, to_ascii_lowercase}

-- letters, digits, `_` and what is past ASCII
abbrev pub is_kept : ℕ → Bool
is_kept b = is_ascii_alphanumeric b || (b == 95) || nat_le 128 b

abbrev pub is_blank : ℕ → Bool
is_blank b = (b == 32) || (b == 9)

-- what a byte is spelled as: itself, with small letters; a blank as `_`; and all else as nothing
abbrev pub spelled_byte : ℕ → List ℕ
spelled_byte b = if is_kept b then to_ascii_lowercase b ∷ [] else if is_blank b then 95 ∷ [] else []

abbrev pub spelling : List ℕ → List ℕ
spelling name = flat_map spelled_byte name
