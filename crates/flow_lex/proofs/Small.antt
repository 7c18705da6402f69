-- Each number that is read has 32 bits, and each word is one.
use Rattle.std.proofs.Common.{◌≡◌, ℕ, suc, ◌+◌, ◌<◌, ◌^◌, List, [], ◌∷◌, take, refl, ap, ◌∙◌, arith, cond, true, false, Bool, ◌&&◌}
use Rattle.std.specs.Prelude.{Some}
use Rattle.std.specs.List.{prefix_len, list_all}
use Rattle.flow_model.specs.Lists.{Each}
use Rattle.flow_lex.specs.declared.token.Token.{Token}
use Rattle.flow_lex.specs.declared.token.TokenKind.{TokenKind}
use Rattle.flow_lex.specs.declared.token.TokenKind.TheVariants.{Word, Number}
use Rattle.flow_lex.specs.declared.piece.Piece.{Piece}
use Rattle.flow_lex.specs.Bytes.{number_value, is_letter, is_in_word}
use Rattle.flow_lex.specs.Tokens.{Lexed, piece_at, with_tokens, lexed, IsSmall}
use Rattle.flow_lex.proofs.EachToken.{each-token}

abbrev IsSmallNumber : TokenKind → List ℕ → Type 0
IsSmallNumber kind digits = kind ≡ Number → number_value digits < 2 ^ 32

-- a number has been looked at
small-piece : (b : ℕ) (bs : List ℕ) (p : Piece) → piece_at b bs ≡ Some p → p.kind ≡ Some Number → number_value (b ∷ take p.more bs) < 2 ^ 32
small-piece b bs p e kind = grind arith

pub small-front : (text : List ℕ) (front : List Token) (l : Lexed) → lexed text ≡ with_tokens front l → Each (IsSmall text) front
small-front = each-token IsSmallNumber (λ b bs p kind e is number. small-piece b bs p e (is ∙ ap Some number))

-- a letter, and then what may stand in a word
abbrev pub IsWord : TokenKind → List ℕ → Type 0
IsWord kind [] = kind ≡ Word → ⊥
IsWord kind (b ∷ bs) = kind ≡ Word → (is_letter b ≡ true) × (list_all is_in_word bs ≡ true)

word-piece : (b : ℕ) (bs : List ℕ) (p : Piece) → piece_at b bs ≡ Some p → p.kind ≡ Some Word → (is_letter b ≡ true) × (p.more ≡ prefix_len is_in_word bs)
word-piece b bs p e kind = (grind arith, grind arith)

prefix-all : (pass : ℕ → Bool) (bs : List ℕ) → list_all pass (take (prefix_len pass bs) bs) ≡ true
prefix-all pass [] = refl
prefix-all pass (b ∷ bs) = go (pass b) refl (prefix-all pass bs)
  where
    go : (passes : Bool) → pass b ≡ passes → list_all pass (take (prefix_len pass bs) bs) ≡ true →
        list_all pass (take (cond passes (1 + prefix_len pass bs) 0) (b ∷ bs)) ≡ true
    go false e h = refl
    go true e h =
        let more : 1 + prefix_len pass bs ≡ suc (prefix_len pass bs) = omega arith in
        ap (λ n. list_all pass (take n (b ∷ bs))) more ∙ ap (λ t. t && list_all pass (take (prefix_len pass bs) bs)) e ∙ h

pub piece-is-word : (b : ℕ) (bs : List ℕ) (p : Piece) (kind : TokenKind) → piece_at b bs ≡ Some p → p.kind ≡ Some kind → IsWord kind (b ∷ take p.more bs)
piece-is-word b bs p kind e is word =
    let (letter, more) = word-piece b bs p e (is ∙ ap Some word) in
    (letter, ap (λ n. list_all is_in_word (take n bs)) more ∙ prefix-all is_in_word bs)
