-- A text as a browser reads it in an element, or in quotes.
use Rattle.std.specs.Prelude.{◌≡◌, ℕ, ◌==◌, nat_eq, if◌then◌else◌, List, [], ◌∷◌, ◌++◌, Option, None, Some, codes}
use Rattle.std.specs.Cmp.Lexicographic.{pointwise}
use Rattle.flow_draw.specs.declared.format.Format.TheVariants.{Svg}
use Rattle.flow_draw.specs.Escape.{escaped}
use Rattle.flow_draw.specs.Inside.{is_tame}

-- the byte for which a reference of that name stands
abbrev pub named : List ℕ → Option ℕ
named name =
    if pointwise nat_eq name (codes "amp") then Some 38 else if pointwise nat_eq name (codes "lt") then Some 60
    else if pointwise nat_eq name (codes "gt") then Some 62 else if pointwise nat_eq name (codes "quot") then Some 34 else None

-- a byte in front of what is read, if something is
abbrev pub before : ℕ → Option (List ℕ) → Option (List ℕ)
before byte None = None
before byte (Some bytes) = Some (byte ∷ bytes)

-- what a reference stands for, in front of what is read
abbrev pub named_before : Option ℕ → Option (List ℕ) → Option (List ℕ)
named_before None bytes = None
named_before (Some byte) bytes = before byte bytes

-- What the bytes say. Behind an `&` it has the letters so far, up to a `;`. They say nothing where a `<`, a `>` or a `"` stands among
-- them, which would end the text, or an `&` that begins no reference.
abbrev pub read_from : Option (List ℕ) → List ℕ → Option (List ℕ)
read_from None [] = Some []
read_from (Some name) [] = None
read_from None (byte ∷ bytes) =
    if byte == 38 then read_from (Some []) bytes else if is_tame byte then before byte (read_from None bytes) else None
read_from (Some name) (byte ∷ bytes) =
    if byte == 59 then named_before (named name) (read_from None bytes) else read_from (Some (name ++ byte ∷ [])) bytes

abbrev pub read_text : List ℕ → Option (List ℕ)
read_text bytes = read_from None bytes

-- whatever the text is, it is read in the page as it is
abbrev pub TextsAreReadBack : Type 0
TextsAreReadBack = (text : List ℕ) → read_text (escaped Svg text) ≡ Some text
