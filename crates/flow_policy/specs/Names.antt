-- Names of users.
use Rattle.std.specs.Prelude.{ℕ, Bool, false, ◌&&◌, ◌||◌, nat_eq, nat_le, not, is_some, List, [], ◌∷◌}
use Rattle.std.specs.List.{list_all}
use Rattle.flow_lex.specs.Bytes.{is_letter, is_in_word}
use Rattle.flow_reader.specs.Symbols.{reserved}

-- a letter, then letters, digits and low lines; and not reserved
abbrev pub is_name : List ℕ → Bool
is_name [] = false
is_name (b ∷ bs) = is_letter b && (list_all is_in_word bs && not (is_some (reserved (b ∷ bs))))

-- a reserved word begins with the letter: a, one of c to i or of m to p, or r
abbrev pub begins_reserved : ℕ → Bool
begins_reserved b = nat_eq b 97 || (nat_le 99 b && nat_le b 105) || (nat_le 109 b && nat_le b 112) || nat_eq b 114
