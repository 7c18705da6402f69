-- A text as its tokens.
use Rattle.std.specs.Prelude.{◌≡◌, ℕ, zero, suc, ◌+◌, ◌-◌, ◌<◌, ◌≤◌, ◌^◌, nat_eq, nat_lt, if◌then◌else◌, List, [], ◌∷◌, ◌++◌, length, take, drop, slice_index, Option, Some, None}
use Rattle.std.specs.List.{prefix_len}
use Rattle.flow_model.specs.Lists.{Each}
use Rattle.flow_lex.specs.declared.token.Token.{Token}
use Rattle.flow_lex.specs.declared.token.TokenKind.{TokenKind}
use Rattle.flow_lex.specs.declared.token.TokenKind.TheVariants.{Word, Number, Mark}
use Rattle.flow_lex.specs.declared.piece.Piece.{Piece}
use Rattle.flow_lex.specs.Bytes.{is_space, is_letter, is_digit, is_in_word, is_in_line, is_mark, number_value}

-- bytes that make no token: white space, a comment
abbrev pub gap : ℕ → Piece
gap more = record { kind = None; more = more }

abbrev pub token : TokenKind → ℕ → Piece
token kind more = record { kind = Some kind; more = more }

-- the number that begins with that digit, as long as possible; None where it has more than 32 bits
abbrev pub number_piece : ℕ → List ℕ → Option Piece
number_piece b bs =
    if nat_lt (number_value (b ∷ take (prefix_len is_digit bs) bs)) (2 ^ 32) then Some (token Number (prefix_len is_digit bs)) else None

-- what begins with that byte and those behind it; None where nothing can
abbrev pub piece_at : ℕ → List ℕ → Option Piece
piece_at b bs =
    if is_space b then Some (gap 0)
    else (if nat_eq b 35 then Some (gap (prefix_len is_in_line bs))
    else (if is_letter b then Some (token Word (prefix_len is_in_word bs))
    else (if is_digit b then number_piece b bs
    else (if is_mark b then Some (token Mark 0) else None))))

-- the token of a piece at that place, if it has one
abbrev pub token_of : ℕ → Piece → List Token
token_of place piece = from piece.kind
  where
    from : Option TokenKind → List Token
    from None = []
    from (Some kind) = record { kind = kind; start = place; end = place + piece.more + 1 } ∷ []

-- tokens, and the place at which no further one begins, if there is such
pub record Lexed : Type 0 where
  pub tokens : List Token
  pub bad : Option ℕ

abbrev pub with_tokens : List Token → Lexed → Lexed
with_tokens tokens l = record { tokens = tokens ++ l.tokens; bad = l.bad }

-- what begins at the place, and what the bytes behind it are then
abbrev pub after_piece : ℕ → Option Piece → (ℕ → Lexed) → Lexed
after_piece place None later = record { tokens = []; bad = Some place }
after_piece place (Some piece) later = with_tokens (token_of place piece) (later piece.more)

-- the bytes behind the first so many, the first of all standing at the place
abbrev pub lexed_after : ℕ → ℕ → List ℕ → Lexed
lexed_after place skipped [] = record { tokens = []; bad = None }
lexed_after place (suc skipped) (b ∷ bs) = lexed_after (place + 1) skipped bs
lexed_after place zero (b ∷ bs) = after_piece place (piece_at b bs) (λ more. lexed_after (place + 1) more bs)

-- a text as its tokens
abbrev pub lexed : List ℕ → Lexed
lexed text = lexed_after 0 zero text

abbrev pub IsAscii : List ℕ → Type 0
IsAscii text = Each (λ b. b ≤ 127) text

-- the byte at the place is no ASCII, and all before it are
pub record IsFirstNotAscii (text : List ℕ) (place : ℕ) : Type 0 where
  pub within : place < length text
  pub before : IsAscii (take place text)
  pub there : 127 < slice_index text place

-- the tokens stand within the text from the place on, none is empty, and each ends before the next begins
abbrev pub AreSpans : ℕ → ℕ → List Token → Type 0
AreSpans place end [] = place ≤ end
AreSpans place end (t ∷ ts) = (place ≤ t.start) × (t.start < t.end) × AreSpans t.end end ts

-- the bytes of a token
abbrev pub bytes_of : List ℕ → Token → List ℕ
bytes_of text t = take (t.end - t.start) (drop t.start text)

-- a number has 32 bits
abbrev pub IsSmall : List ℕ → Token → Type 0
IsSmall text t = t.kind ≡ Number → number_value (bytes_of text t) < 2 ^ 32
