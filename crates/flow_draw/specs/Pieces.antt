-- Texts in pieces.
use Rattle.std.specs.Prelude.{ℕ, List}
use Rattle.std.specs.List.{flat_map}
use Rattle.std.specs.Fmt.{decimal}
use Rattle.flow_draw.specs.declared.pieces.Piece.{Piece}
use Rattle.flow_draw.specs.declared.pieces.Piece.TheVariants.{Words, Number, Escaped}
use Rattle.flow_draw.specs.Escape.{escaped}

-- one after another
abbrev pub joined : List (List ℕ) → List ℕ
joined pieces = flat_map (λ piece. piece) pieces

-- words as they are, a number by its digits, and what is escaped
abbrev pub piece_text : Piece → List ℕ
piece_text (Words words) = words.now
piece_text (Number number) = decimal number
piece_text (Escaped format bytes) = escaped format bytes.now

abbrev pub pieces_text : List Piece → List ℕ
pieces_text pieces = flat_map piece_text pieces
