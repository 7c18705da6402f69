-- What holds of each token that is read.
use Rattle.std.proofs.Common.{◌≡◌, ℕ, zero, suc, ◌+◌, ◌-◌, List, [], ◌∷◌, ◌++◌, length, length-append, take, refl, sym, subst, arith, append_assoc}
use Rattle.std.specs.Prelude.{Option, Some, None}
use Rattle.flow_model.specs.Lists.{Each}
use Rattle.flow_lex.specs.declared.token.Token.{Token}
use Rattle.flow_lex.specs.declared.token.TokenKind.{TokenKind}
use Rattle.flow_lex.specs.declared.piece.Piece.{Piece}
use Rattle.flow_lex.specs.Tokens.{Lexed, piece_at, token_of, with_tokens, after_piece, lexed_after, lexed, bytes_of}
use Rattle.flow_model.proofs.Lists.{each-append, each_parts}
use Rattle.std.proofs.Math.Seq.{drop-append_seam}

-- the bytes of the token that begins there
token-bytes : (front : List ℕ) (b more : ℕ) (bs : List ℕ) (kind : TokenKind) →
    bytes_of (front ++ b ∷ bs) (record { kind = kind; start = length front; end = length front + more + 1 }) ≡ b ∷ take more bs
token-bytes front b more bs kind =
    let size : length front + more + 1 - length front ≡ suc more = omega arith in
    (λ i. take (size i) (drop-append_seam front (b ∷ bs) i))

-- the token's kind and bytes have Q
abbrev pub Has : (TokenKind → List ℕ → Type 0) → List ℕ → Token → Type 0
Has Q text t = Q t.kind (bytes_of text t)

module _ (Q : TokenKind → List ℕ → Type 0)
    (piece_has : (b : ℕ) (bs : List ℕ) (p : Piece) (kind : TokenKind) → piece_at b bs ≡ Some p → p.kind ≡ Some kind → Q kind (b ∷ take p.more bs)) where
  token-has : (front : List ℕ) (b : ℕ) (bs : List ℕ) (p : Piece) → piece_at b bs ≡ Some p → Each (Has Q (front ++ b ∷ bs)) (token_of (length front) p)
  token-has front b bs p e = from p.kind refl
    where
      tokens : Option TokenKind → List Token
      tokens None = []
      tokens (Some kind) = record { kind = kind; start = length front; end = length front + p.more + 1 } ∷ []

      from : (kind : Option TokenKind) → p.kind ≡ kind → Each (Has Q (front ++ b ∷ bs)) (tokens kind)
      from None is = tt
      from (Some kind) is = (subst (Q kind) (sym (token-bytes front b p.more bs kind)) (piece_has b bs p kind e is), tt)

  moved : (front : List ℕ) (b : ℕ) (bs : List ℕ) (skipped : ℕ) →
      Each (Has Q ((front ++ b ∷ []) ++ bs)) (lexed_after (length (front ++ b ∷ [])) skipped bs).tokens →
      Each (Has Q (front ++ b ∷ bs)) (lexed_after (length front + 1) skipped bs).tokens
  moved front b bs skipped h =
      let place : length (front ++ b ∷ []) ≡ length front + 1 = length-append front (b ∷ []) in
      subst (λ text. Each (Has Q text) (lexed_after (length front + 1) skipped bs).tokens) (append_assoc front (b ∷ []) bs)
      (subst (λ n. Each (Has Q ((front ++ b ∷ []) ++ bs)) (lexed_after n skipped bs).tokens) place h)

  after-has : (front : List ℕ) (b : ℕ) (bs : List ℕ) (o : Option Piece) → piece_at b bs ≡ o →
      ((more : ℕ) → Each (Has Q (front ++ b ∷ bs)) (lexed_after (length front + 1) more bs).tokens) →
      Each (Has Q (front ++ b ∷ bs)) (after_piece (length front) o (λ more. lexed_after (length front + 1) more bs)).tokens
  after-has front b bs None e later = tt
  after-has front b bs (Some p) e later =
      each-append (Has Q (front ++ b ∷ bs)) (token_of (length front) p) (lexed_after (length front + 1) p.more bs).tokens
      (token-has front b bs p e) (later p.more)

  has-after : (bs front : List ℕ) (skipped : ℕ) → Each (Has Q (front ++ bs)) (lexed_after (length front) skipped bs).tokens
  has-after [] front skipped = tt
  has-after (b ∷ bs) front (suc skipped) = moved front b bs skipped (has-after bs (front ++ b ∷ []) skipped)
  has-after (b ∷ bs) front zero =
      after-has front b bs (piece_at b bs) refl (λ more. moved front b bs more (has-after bs (front ++ b ∷ []) more))

  -- the tokens that are read first
  pub each-token : (text : List ℕ) (front : List Token) (l : Lexed) → lexed text ≡ with_tokens front l → Each (Has Q text) front
  each-token text front l e =
      (each_parts (Has Q text) front l.tokens (subst (λ (whole : Lexed). Each (Has Q text) whole.tokens) e (has-after text [] zero))).0

  pub each-read : (text : List ℕ) (tokens : List Token) → lexed text ≡ record { tokens = tokens; bad = None } → Each (Has Q text) tokens
  each-read text tokens e = subst (λ (whole : Lexed). Each (Has Q text) whole.tokens) e (has-after text [] zero)
