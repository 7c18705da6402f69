-- Numbers as text.
use Rattle.std.specs.Prelude.{ℕ, ◌+◌, ◌*◌, ◌-◌, ◌^◌, Bool, false, ◌&&◌, ◌==◌, nat_lt, nat_le, if◌then◌else◌, List, [], ◌∷◌, ◌++◌, length, Option, Some, None, codes}
use Rattle.std.specs.List.{list_all, flat_map}
use Rattle.std.specs.Fmt.{decimal}

-- a digit, `0` to `9`
abbrev pub is_digit : ℕ → Bool
is_digit b = nat_le 48 b && nat_le b 57

-- the value of digits that follow others of that value
abbrev pub value_after : ℕ → List ℕ → ℕ
value_after value [] = value
value_after value (digit ∷ digits) = value_after (value * 10 + (digit - 48)) digits

-- one to ten digits
abbrev pub is_numeral : List ℕ → Bool
is_numeral word = list_all is_digit word && (nat_lt 0 (length word) && nat_le (length word) 10)

-- the number that a word is: a numeral of value at most 4,294,967,295
abbrev pub number_of : List ℕ → Option ℕ
number_of word =
    if is_numeral word && nat_lt (value_after 0 word) (2 ^ 32) then Some (value_after 0 word) else None

-- the value with one digit more, where the byte is a digit and the value stays below 2 ^ 32
abbrev pub value_with : ℕ → ℕ → Option ℕ
value_with value byte =
    if is_digit byte && nat_lt (value * 10 + (byte - 48)) (2 ^ 32) then Some (value * 10 + (byte - 48)) else None

-- more than one digit, and the first of them is 0
abbrev pub has_leading_zero : List ℕ → Bool
has_leading_zero [] = false
has_leading_zero (b ∷ []) = false
has_leading_zero (b ∷ c ∷ bs) = b == 48

-- the number that a word is, in its one spelling: without leading zeros
abbrev pub plain_number : List ℕ → Option ℕ
plain_number word = if has_leading_zero word then None else number_of word

-- numbers, each after a blank
abbrev pub spaced_numbers : List ℕ → List ℕ
spaced_numbers numbers = flat_map (λ n. codes " " ++ decimal n) numbers
