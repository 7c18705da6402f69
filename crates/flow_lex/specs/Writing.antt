-- Texts that are written piece by piece.
use Rattle.std.specs.Prelude.{◌≡◌, ℕ, zero, ◌+◌, ◌<◌, ◌^◌, Bool, false, true, List, [], ◌∷◌, ◌++◌, length}
use Rattle.std.specs.List.{list_all}
use Rattle.flow_lex.specs.declared.token.Token.{Token}
use Rattle.flow_lex.specs.declared.token.TokenKind.{TokenKind}
use Rattle.flow_lex.specs.declared.token.TokenKind.TheVariants.{Word, Number, Mark}
use Rattle.flow_lex.specs.Bytes.{is_space, is_letter, is_digit, is_in_word, is_mark, number_value}
use Rattle.flow_lex.specs.Tokens.{with_tokens, lexed_after}

-- the text does not begin with such a byte
abbrev pub BeginsWithout : (ℕ → Bool) → List ℕ → Type 0
BeginsWithout p [] = Unit {0}
BeginsWithout p (b ∷ bs) = p b ≡ false

-- a token of so many bytes at the place
abbrev pub spanning : TokenKind → ℕ → ℕ → Token
spanning kind place size = record { kind = kind; start = place; end = place + size }

abbrev pub WordsAreRead : Type 0
WordsAreRead = (place letter : ℕ) (more rest : List ℕ) → is_letter letter ≡ true → list_all is_in_word more ≡ true → BeginsWithout is_in_word rest →
    lexed_after place zero (letter ∷ more ++ rest)
    ≡ with_tokens (spanning Word place (length (letter ∷ more)) ∷ []) (lexed_after (place + length (letter ∷ more)) zero rest)

abbrev pub NumbersAreRead : Type 0
NumbersAreRead = (place digit : ℕ) (more rest : List ℕ) → is_digit digit ≡ true → list_all is_digit more ≡ true → BeginsWithout is_digit rest →
    number_value (digit ∷ more) < 2 ^ 32 →
    lexed_after place zero (digit ∷ more ++ rest)
    ≡ with_tokens (spanning Number place (length (digit ∷ more)) ∷ []) (lexed_after (place + length (digit ∷ more)) zero rest)

abbrev pub MarksAreRead : Type 0
MarksAreRead = (place mark : ℕ) (rest : List ℕ) → is_mark mark ≡ true →
    lexed_after place zero (mark ∷ rest) ≡ with_tokens (spanning Mark place 1 ∷ []) (lexed_after (place + 1) zero rest)

abbrev pub BlanksAreSkipped : Type 0
BlanksAreSkipped = (place blank : ℕ) (rest : List ℕ) → is_space blank ≡ true →
    lexed_after place zero (blank ∷ rest) ≡ lexed_after (place + 1) zero rest
