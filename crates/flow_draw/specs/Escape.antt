-- Bytes of a label as they stand in a text of each form.
use Rattle.std.specs.Prelude.{ℕ, ◌==◌, nat_lt, if◌then◌else◌, List, [], ◌∷◌, codes}
use Rattle.std.specs.List.{flat_map}
use Rattle.flow_draw.specs.declared.format.Format.{Format}
use Rattle.flow_draw.specs.declared.format.Format.TheVariants.{Svg, Mermaid, Dot}

-- `&`, `<`, `>` and `"` go by their names
abbrev pub in_svg : ℕ → List ℕ
in_svg byte =
    if byte == 38 then codes "&amp;" else if byte == 60 then codes "&lt;" else if byte == 62 then codes "&gt;"
    else if byte == 34 then codes "&quot;" else byte ∷ []

-- `"`, `#`, `&`, `<` and `>` go by their names or numbers behind a `#`
abbrev pub in_mermaid : ℕ → List ℕ
in_mermaid byte =
    if byte == 34 then codes "#quot;" else if byte == 35 then codes "#35;" else if byte == 38 then codes "#amp;"
    else if byte == 60 then codes "#lt;" else if byte == 62 then codes "#gt;" else byte ∷ []

-- `"` and `\` stand behind a `\`, and `&` goes by its name
abbrev pub in_dot : ℕ → List ℕ
in_dot byte =
    if byte == 34 then 92 ∷ 34 ∷ [] else if byte == 92 then 92 ∷ 92 ∷ [] else if byte == 38 then codes "&amp;" else byte ∷ []

abbrev pub escaped_byte : Format → ℕ → List ℕ
escaped_byte Svg byte = in_svg byte
escaped_byte Mermaid byte = in_mermaid byte
escaped_byte Dot byte = in_dot byte

-- byte by byte
abbrev pub escaped : Format → List ℕ → List ℕ
escaped format bytes = flat_map (escaped_byte format) bytes

-- in the double quotes of a line of YAML: `"` and `\` stand behind a `\`, and what ends a line or is no letter is a blank
abbrev pub quoted_byte : ℕ → List ℕ
quoted_byte byte =
    if byte == 34 then 92 ∷ 34 ∷ [] else if byte == 92 then 92 ∷ 92 ∷ [] else if nat_lt byte 32 then 32 ∷ [] else byte ∷ []

abbrev pub quoted : List ℕ → List ℕ
quoted bytes = flat_map quoted_byte bytes
