-- Texts as values of attributes of XML 1.0, and as a reader reads them.
use Rattle.std.specs.Prelude.{◌≡◌, ℕ, ◌+◌, ◌==◌, ◌&&◌, ◌||◌, nat_lt, nat_eq, Bool, true, not, if◌then◌else◌, List, [], ◌∷◌, ◌++◌, Option, None, Some, codes}
use Rattle.std.specs.Cmp.Lexicographic.{pointwise}
use Rattle.flow_draw.specs.Escape.{in_svg}
use Rattle.flow_draw.specs.Inside.{is_tame}
use Rattle.flow_page.specs.Reading.{named, before, named_before}

-- a tab, a line feed or a carriage return
abbrev pub is_space : ℕ → Bool
is_space byte = (byte == 9) || (byte == 10) || (byte == 13)

-- a control byte that XML has no place for
abbrev pub is_barred : ℕ → Bool
is_barred byte = nat_lt byte 32 && not (is_space byte)

-- the last byte of U+FFFE or U+FFFF, behind the two in front: XML has no place for these two either
abbrev pub ends_noncharacter : ℕ → ℕ → ℕ → Bool
ends_noncharacter first second byte = (first == 239) && (second == 191) && ((byte == 190) || (byte == 191))

-- the sign that Unicode has for a control byte: U+2400 and so many more
abbrev pub sign_of : ℕ → List ℕ
sign_of byte = 226 ∷ 144 ∷ (128 + byte) ∷ []

-- ---- what XML can say of a text

-- Behind these two bytes: a control byte goes by its sign, U+FFFE and U+FFFF by U+FFFD.
abbrev pub placed_byte : ℕ → ℕ → ℕ → List ℕ
placed_byte first second byte =
    if ends_noncharacter first second byte then 189 ∷ [] else if is_barred byte then sign_of byte else byte ∷ []

abbrev pub placed_from : ℕ → ℕ → List ℕ → List ℕ
placed_from first second [] = []
placed_from first second (byte ∷ bytes) = placed_byte first second byte ++ placed_from second byte bytes

abbrev pub placed : List ℕ → List ℕ
placed text = placed_from 0 0 text

-- XML has a place for each of its bytes
abbrev pub has_place_from : ℕ → ℕ → List ℕ → Bool
has_place_from first second [] = true
has_place_from first second (byte ∷ bytes) = not (ends_noncharacter first second byte) && not (is_barred byte) && has_place_from second byte bytes

abbrev pub has_place : List ℕ → Bool
has_place text = has_place_from 0 0 text

-- ---- what is written

-- tabs and line ends by their numbers: as they are, a reader takes them for blanks
abbrev pub value_byte : ℕ → ℕ → ℕ → List ℕ
value_byte first second byte =
    if ends_noncharacter first second byte then 189 ∷ [] else if byte == 9 then codes "&#9;" else if byte == 10 then codes "&#10;"
    else if byte == 13 then codes "&#13;" else if nat_lt byte 32 then sign_of byte else in_svg byte

abbrev pub value_from : ℕ → ℕ → List ℕ → List ℕ
value_from first second [] = []
value_from first second (byte ∷ bytes) = value_byte first second byte ++ value_from second byte bytes

abbrev pub value_text : List ℕ → List ℕ
value_text text = value_from 0 0 text

-- ---- what is read

-- the byte for which a reference stands, by its name or its number
abbrev pub stands_for : List ℕ → Option ℕ
stands_for name =
    if pointwise nat_eq name (codes "#9") then Some 9 else if pointwise nat_eq name (codes "#10") then Some 10
    else if pointwise nat_eq name (codes "#13") then Some 13 else named name

-- What the bytes in quotes say. Behind an `&` it has the letters so far, up to a `;`. A tab or a line end is read as a blank. They say
-- nothing where a `<`, a `>` or a `"` stands among them, which would end the value, an `&` that begins no reference, or a control byte.
abbrev pub read_value_from : Option (List ℕ) → List ℕ → Option (List ℕ)
read_value_from None [] = Some []
read_value_from (Some name) [] = None
read_value_from None (byte ∷ bytes) =
    if byte == 38 then read_value_from (Some []) bytes else if is_space byte then before 32 (read_value_from None bytes)
    else if nat_lt byte 32 then None else if is_tame byte then before byte (read_value_from None bytes) else None
read_value_from (Some name) (byte ∷ bytes) =
    if byte == 59 then named_before (stands_for name) (read_value_from None bytes) else read_value_from (Some (name ++ byte ∷ [])) bytes

abbrev pub read_value : List ℕ → Option (List ℕ)
read_value bytes = read_value_from None bytes

-- whatever the text is, its value is read as what XML can say of it; that is the text itself, where XML has a place for all of it
pub record ValuesAreReadBack : Type 0 where
  pub read : (text : List ℕ) → read_value (value_text text) ≡ Some (placed text)
  pub same : (text : List ℕ) → has_place text ≡ true → placed text ≡ text
