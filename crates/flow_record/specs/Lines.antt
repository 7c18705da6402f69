-- The lines of a text, and a text cut at a byte.
use Rattle.std.specs.Prelude.{ℕ, Bool, false, ◌&&◌, ◌==◌, if◌then◌else◌, List, [], ◌∷◌, Option, Some, None}
use Rattle.std.specs.Option.{option_map}

-- the text begins with that byte
abbrev pub begins_with : ℕ → List ℕ → Bool
begins_with byte [] = false
begins_with byte (b ∷ bs) = b == byte

-- the text without each carriage return that stands directly before a line feed
abbrev pub without_returns : List ℕ → List ℕ
without_returns [] = []
without_returns (b ∷ bs) =
    if (b == 13) && begins_with 10 bs then without_returns bs else b ∷ without_returns bs

-- the byte before the first of the pieces
abbrev pub onto_first : ℕ → List (List ℕ) → List (List ℕ)
onto_first b [] = (b ∷ []) ∷ []
onto_first b (piece ∷ pieces) = (b ∷ piece) ∷ pieces

-- the lines of a text, each ended by a line feed or by the end of the text
abbrev pub lines_of : List ℕ → List (List ℕ)
lines_of [] = []
lines_of (b ∷ bs) = if b == 10 then [] ∷ lines_of bs else onto_first b (lines_of bs)

-- a line without the carriage return at its end, if it has one
abbrev pub stripped : List ℕ → List ℕ
stripped [] = []
stripped (b ∷ []) = if b == 13 then [] else b ∷ []
stripped (b ∷ c ∷ bs) = b ∷ stripped (c ∷ bs)

-- a pair of texts, the first with one byte more before it
abbrev pub with_byte : ℕ → List ℕ × List ℕ → List ℕ × List ℕ
with_byte b parts = (b ∷ parts.0, parts.1)

-- what stands before the first such byte, and what after it
abbrev pub cut_at : ℕ → List ℕ → Option (List ℕ × List ℕ)
cut_at byte [] = None
cut_at byte (b ∷ bs) = if b == byte then Some ([], bs) else option_map (with_byte b) (cut_at byte bs)

-- the pieces of a text between such bytes, one more than there are of these
abbrev pub pieces_of : ℕ → List ℕ → List (List ℕ)
pieces_of byte [] = [] ∷ []
pieces_of byte (b ∷ bs) = if b == byte then [] ∷ pieces_of byte bs else onto_first b (pieces_of byte bs)
