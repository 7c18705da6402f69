-- The bytes of which tokens are made.
use Rattle.std.specs.Prelude.{ℕ, ◌+◌, ◌*◌, ◌-◌, ◌^◌, min, Bool, ◌&&◌, ◌||◌, not, nat_eq, nat_le, List, fold}

-- a blank, the end of a line, a tab or a carriage return
abbrev pub is_space : ℕ → Bool
is_space b = nat_eq b 32 || nat_eq b 10 || nat_eq b 9 || nat_eq b 13

-- a to z, A to Z
abbrev pub is_letter : ℕ → Bool
is_letter b = (nat_le 97 b && nat_le b 122) || (nat_le 65 b && nat_le b 90)

-- 0 to 9
abbrev pub is_digit : ℕ → Bool
is_digit b = nat_le 48 b && nat_le b 57

-- what may stand in a word behind its first letter
abbrev pub is_in_word : ℕ → Bool
is_in_word b = is_letter b || is_digit b || nat_eq b 95

-- not the end of a line
abbrev pub is_in_line : ℕ → Bool
is_in_line b = not (nat_eq b 10)

-- ( ) , ;
abbrev pub is_bracket_or_end : ℕ → Bool
is_bracket_or_end b = nat_eq b 40 || nat_eq b 41 || nat_eq b 44 || nat_eq b 59

-- one of these, or * | + = ? !
abbrev pub is_mark : ℕ → Bool
is_mark b =
    is_bracket_or_end b || nat_eq b 42 || nat_eq b 124 || nat_eq b 43 || nat_eq b 61 || nat_eq b 63 || nat_eq b 33

-- the value of decimal digits
abbrev pub number_value : List ℕ → ℕ
number_value digits = fold (λ value digit. 10 * value + (digit - 48)) 0 digits

-- the value with one digit more, or the greatest number of 64 bits
abbrev pub kept_with : ℕ → ℕ → ℕ
kept_with value digit = min (min (value * 10) (2 ^ 64 - 1) + (digit - 48)) (2 ^ 64 - 1)
