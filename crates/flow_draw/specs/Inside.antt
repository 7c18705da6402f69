-- A label stays where it is written.
use Rattle.std.specs.Prelude.{◌≡◌, ℕ, ◌==◌, nat_lt, ◌&&◌, Bool, true, false, not, if◌then◌else◌, List, [], ◌∷◌}
use Rattle.std.specs.List.{list_all}
use Rattle.flow_draw.specs.declared.format.Format.TheVariants.{Svg, Mermaid, Dot}
use Rattle.flow_draw.specs.Escape.{escaped, quoted}

-- the byte is no `<`, no `>` and no `"`
abbrev pub is_tame : ℕ → Bool
is_tame byte = not (byte == 60) && not (byte == 62) && not (byte == 34)

-- no tag begins or ends in a label, and no quotes
abbrev pub SvgStaysInside : Type 0
SvgStaysInside = (bytes : List ℕ) → list_all is_tame (escaped Svg bytes) ≡ true

abbrev pub MermaidStaysInside : Type 0
MermaidStaysInside = (bytes : List ℕ) → list_all is_tame (escaped Mermaid bytes) ≡ true

-- no `"` ends the quotes in which the text stands, nor does its end: a `\` takes the byte behind it, as one does before the text or not
abbrev pub stays_quoted : Bool → List ℕ → Bool
stays_quoted taken [] = not taken
stays_quoted true (byte ∷ bytes) = stays_quoted false bytes
stays_quoted false (byte ∷ bytes) = if byte == 92 then stays_quoted true bytes else if byte == 34 then false else stays_quoted false bytes

abbrev pub DotStaysInside : Type 0
DotStaysInside = (bytes : List ℕ) → stays_quoted false (escaped Dot bytes) ≡ true

abbrev pub QuotedStaysInside : Type 0
QuotedStaysInside = (bytes : List ℕ) → stays_quoted false (quoted bytes) ≡ true

-- no byte ends a line
abbrev pub QuotedIsOneLine : Type 0
QuotedIsOneLine = (bytes : List ℕ) → list_all (nat_lt 31) (quoted bytes) ≡ true
