-- Texts as literals of SQL, and as they are read.
use Rattle.std.specs.Prelude.{◌≡◌, ℕ, ◌==◌, Bool, true, false, if◌then◌else◌, List, [], ◌∷◌, ◌++◌, codes, Option, None, Some}
use Rattle.std.specs.List.{flat_map}
use Rattle.flow_export.specs.Value.{sign_of}

-- ---- what is written

-- a NUL, for which databases have no place, goes by its sign
abbrev pub kept_byte : ℕ → List ℕ
kept_byte byte = if byte == 0 then sign_of 0 else byte ∷ []

abbrev pub kept : List ℕ → List ℕ
kept text = flat_map kept_byte text

-- a quote is doubled
abbrev pub literal_byte : ℕ → List ℕ
literal_byte byte = if byte == 39 then 39 ∷ 39 ∷ [] else kept_byte byte

abbrev pub quoted : List ℕ → List ℕ
quoted text = flat_map literal_byte text

-- a text in quotes
unfoldable pub literal_text : List ℕ → List ℕ
literal_text text = codes "'" ++ quoted text ++ codes "'"

-- ---- what is read

-- a byte in front of the text that is read
abbrev pub text_before : ℕ → Option (List ℕ × List ℕ) → Option (List ℕ × List ℕ)
text_before byte None = None
text_before byte (Some (text, rest)) = Some (byte ∷ text, rest)

-- Within a literal, or just behind a quote in it: the text, and what stands behind its end. A quote ends it unless it is doubled.
abbrev pub read_quoted : Bool → List ℕ → Option (List ℕ × List ℕ)
read_quoted false [] = None
read_quoted true [] = Some ([], [])
read_quoted false (byte ∷ bytes) = if byte == 39 then read_quoted true bytes else text_before byte (read_quoted false bytes)
read_quoted true (byte ∷ bytes) = if byte == 39 then text_before 39 (read_quoted false bytes) else Some ([], byte ∷ bytes)

abbrev pub read_literal : List ℕ → Option (List ℕ × List ℕ)
read_literal [] = None
read_literal (byte ∷ bytes) = if byte == 39 then read_quoted false bytes else None

abbrev pub begins_with_quote : List ℕ → Bool
begins_with_quote [] = false
begins_with_quote (byte ∷ bytes) = byte == 39

abbrev pub has_nul : List ℕ → Bool
has_nul [] = false
has_nul (byte ∷ bytes) = if byte == 0 then true else has_nul bytes

-- Whatever the text is, its literal is read as the text, with the sign for each NUL, and ends just where it is written. Where the text has
-- no NUL it is read as it is.
pub record LiteralsAreReadBack : Type 0 where
  pub read : (text rest : List ℕ) → begins_with_quote rest ≡ false → read_literal (literal_text text ++ rest) ≡ Some (kept text, rest)
  pub same : (text : List ℕ) → has_nul text ≡ false → kept text ≡ text
