-- Texts of JSON.
use Rattle.std.specs.Prelude.{ℕ, ◌+◌, ◌/◌, ◌%◌, Bool, true, false, ◌==◌, ◌||◌, nat_lt, if◌then◌else◌, List, [], ◌∷◌, ◌++◌, codes}
use Rattle.std.specs.List.{flat_map}
use Rattle.std.specs.Fmt.{decimal}

-- the digit of a value below 16
abbrev pub digit : ℕ → ℕ
digit value = if nat_lt value 10 then 48 + value else 87 + value

-- a byte by its number
abbrev pub by_number : ℕ → List ℕ
by_number byte = codes "\\u00" ++ digit (byte / 16) ∷ digit (byte % 16) ∷ []

-- a byte of a text in UTF-8 inside a string: a control character by its number, and `"` and `\` behind a `\`
abbrev pub spelled_in_text : ℕ → List ℕ
spelled_in_text byte = if nat_lt byte 32 then by_number byte else if byte == 34 || byte == 92 then 92 ∷ byte ∷ [] else byte ∷ []

abbrev pub quoted_text : List ℕ → List ℕ
quoted_text text = codes "\"" ++ flat_map spelled_in_text text ++ codes "\""

-- a byte of any bytes inside a string: what is not printable ASCII goes by its number
abbrev pub spelled : ℕ → List ℕ
spelled byte = if nat_lt byte 127 then spelled_in_text byte else by_number byte

abbrev pub quoted : List ℕ → List ℕ
quoted bytes = codes "\"" ++ flat_map spelled bytes ++ codes "\""

-- the key of a member that is not the first one
abbrev pub key_text : List ℕ → List ℕ
key_text key = codes ",\"" ++ key ++ codes "\":"

-- numbers with commas between them
abbrev pub behind_comma : ℕ → List ℕ
behind_comma number = codes "," ++ decimal number

abbrev pub numbers_text : List ℕ → List ℕ
numbers_text [] = []
numbers_text (number ∷ numbers) = decimal number ++ flat_map behind_comma numbers

abbrev pub truth_text : Bool → List ℕ
truth_text true = codes "true"
truth_text false = codes "false"

-- members by what they hold
abbrev pub text_member : List ℕ → List ℕ → List ℕ
text_member key value = key_text key ++ quoted value

abbrev pub number_member : List ℕ → ℕ → List ℕ
number_member key value = key_text key ++ decimal value

abbrev pub truth_member : List ℕ → Bool → List ℕ
truth_member key value = key_text key ++ truth_text value

abbrev pub list_member : List ℕ → List ℕ → List ℕ
list_member key numbers = key_text key ++ codes "[" ++ numbers_text numbers ++ codes "]"
