-- Texts as they stand between the quotes of a JSON string, with one spelling each, and back.
use Rattle.std.specs.Prelude.{◌≤◌, ℕ, ◌+◌, ◌-◌, ◌*◌, ◌/◌, ◌%◌, min, Bool, ◌||◌, ◌==◌, nat_lt, if◌then◌else◌, List, [], ◌∷◌, ◌++◌}
use Rattle.std.specs.List.{flat_map}
use Rattle.flow_trail.specs.declared.spelling.Escape.{Escape}
use Rattle.flow_trail.specs.declared.spelling.Escape.TheVariants.{Out, Letter, FirstZero, SecondZero, High, Low}

-- a control byte, a quote or a backslash
abbrev pub is_escaped : ℕ → Bool
is_escaped b = (nat_lt b 32 || (b == 34)) || (b == 92)

abbrev pub hex_digit : ℕ → ℕ
hex_digit d = if nat_lt d 10 then 48 + d else 87 + d

-- such a byte by its number, as \u00 and two hex digits; any other byte as it is
abbrev pub spelt_byte : ℕ → List ℕ
spelt_byte b = if is_escaped b then 92 ∷ 117 ∷ 48 ∷ 48 ∷ hex_digit (b / 16) ∷ hex_digit (b % 16) ∷ [] else b ∷ []

abbrev pub spelt : List ℕ → List ℕ
spelt text = flat_map spelt_byte text

-- ---- back

abbrev pub digit_value : ℕ → ℕ
digit_value c = if nat_lt c 58 then c - 48 else min (c - 87) 15

-- what a byte adds to the text
abbrev pub given : ℕ → Escape → List ℕ
given b Out = if b == 92 then [] else b ∷ []
given b (Low high) = (high * 16 + digit_value b) ∷ []
given b other = []

-- where a reader is behind the byte
abbrev pub behind : ℕ → Escape → Escape
behind b Out = if b == 92 then Letter else Out
behind b Letter = FirstZero
behind b FirstZero = SecondZero
behind b SecondZero = High
behind b High = Low (digit_value b)
behind b (Low high) = Out

abbrev pub unspelt_from : List ℕ → Escape → List ℕ
unspelt_from [] escape = []
unspelt_from (b ∷ bs) escape = given b escape ++ unspelt_from bs (behind b escape)

abbrev pub unspelt : List ℕ → List ℕ
unspelt text = unspelt_from text Out

-- the digit that was read is one
abbrev pub HasDigit : Escape → Type 0
HasDigit (Low high) = high ≤ 15
HasDigit other = Unit {0}
