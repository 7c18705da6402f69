-- What is written piece by piece is read so.
use Rattle.std.proofs.Common.{◌≡◌, ℕ, zero, suc, ◌+◌, ◌<◌, ◌^◌, List, [], ◌∷◌, ◌++◌, length, take, refl, ap, ◌∙◌, arith, Bool, true, cond, nat_lt, if◌then◌else◌}
use Rattle.std.specs.Prelude.{Some, None}
use Rattle.std.proofs.lemmas.Bool.{lt-ltb}
use Rattle.std.specs.List.{prefix_len, list_all}
use Rattle.flow_lex.specs.declared.token.TokenKind.{TokenKind}
use Rattle.flow_lex.specs.declared.token.TokenKind.TheVariants.{Word, Number}
use Rattle.flow_lex.specs.Bytes.{is_letter, is_digit, is_in_word, number_value}
use Rattle.flow_lex.specs.Tokens.{token, with_tokens, after_piece, lexed_after, piece_at, number_piece}
use Rattle.flow_lex.specs.Writing.{BeginsWithout, spanning, WordsAreRead, NumbersAreRead}
use Rattle.flow_lex.proofs.Cutting.{lexed_after-skipped}
use Rattle.std.proofs.Math.Seq.{drop-append_seam, take-append_seam}

-- all of the front pass and what follows does not
prefix_len-front : (p : ℕ → Bool) (more rest : List ℕ) → list_all p more ≡ true → BeginsWithout p rest → prefix_len p (more ++ rest) ≡ length more
prefix_len-front p [] [] all stop = refl
prefix_len-front p [] (b ∷ bs) all stop = ap (λ pass. cond pass (1 + prefix_len p bs) 0) stop
prefix_len-front p (b ∷ bs) rest all stop = let more = prefix_len-front p bs rest in grind (arith, more)

letter-piece : (b : ℕ) (bs : List ℕ) → is_letter b ≡ true → piece_at b bs ≡ Some (token Word (prefix_len is_in_word bs))
letter-piece b bs letter = grind arith

digit-piece : (b : ℕ) (bs : List ℕ) → is_digit b ≡ true → piece_at b bs ≡ number_piece b bs
digit-piece b bs digit = grind arith

-- a token of so many bytes and one, and then what follows it
token-read : (place b : ℕ) (more rest : List ℕ) (kind : TokenKind) → piece_at b (more ++ rest) ≡ Some (token kind (length more))
    → lexed_after place zero (b ∷ more ++ rest) ≡ with_tokens (spanning kind place (length (b ∷ more)) ∷ []) (lexed_after (place + length (b ∷ more)) zero rest)
token-read place b more rest kind e =
    ap (λ piece. after_piece place piece (λ n. lexed_after (place + 1) n (more ++ rest))) e
    ∙ (λ i. with_tokens (record { kind = kind; start = place; end = ended i } ∷ []) (lexed_after-skipped (place + 1) (length more) (more ++ rest) i))
    ∙ (λ i. with_tokens (spanning kind place (length (b ∷ more)) ∷ []) (lexed_after (on i) zero (drop-append_seam more rest i)))
  where
    ended : place + length more + 1 ≡ place + suc (length more)
    ended = omega arith

    on : place + 1 + length more ≡ place + suc (length more)
    on = omega arith

pub words-read : WordsAreRead
words-read place letter more rest first inside stop =
    token-read place letter more rest Word (letter-piece letter (more ++ rest) first ∙ ap (λ n. Some (token Word n)) (prefix_len-front is_in_word more rest inside stop))

number-piece : (b : ℕ) (more rest : List ℕ) → list_all is_digit more ≡ true → BeginsWithout is_digit rest → number_value (b ∷ more) < 2 ^ 32
    → number_piece b (more ++ rest) ≡ Some (token Number (length more))
number-piece b more rest inside stop small =
    ap (λ n. if nat_lt (number_value (b ∷ take n (more ++ rest))) (2 ^ 32) then Some (token Number n) else None) (prefix_len-front is_digit more rest inside stop)
    ∙ ap (λ ds. if nat_lt (number_value (b ∷ ds)) (2 ^ 32) then Some (token Number (length more)) else None) (take-append_seam more rest)
    ∙ ap (λ t. if t then Some (token Number (length more)) else None) (lt-ltb (number_value (b ∷ more)) (2 ^ 32) small)

pub numbers-read : NumbersAreRead
numbers-read place digit more rest first inside stop small =
    token-read place digit more rest Number (digit-piece digit (more ++ rest) first ∙ number-piece digit more rest inside stop small)
