-- Cutting a text from the front.
use Rattle.std.proofs.Common.{◌≡◌, ℕ, zero, suc, ◌+◌, ◌<◌, ◌==◌, true, false, List, [], ◌∷◌, ◌++◌, length, length-drop, drop, slice_index, refl, sym, ap, ◌∙◌, arith, add-one, append_assoc, append-nil}
use Rattle.std.specs.Prelude.{Option, Some, None}
use Rattle.std.proofs.lemmas.Bool.{eqb-true}
use Rattle.flow_lex.specs.declared.token.Token.{Token}
use Rattle.flow_lex.specs.declared.token.TokenKind.{TokenKind}
use Rattle.flow_lex.specs.declared.piece.Piece.{Piece}
use Rattle.flow_lex.specs.Tokens.{Lexed, piece_at, token_of, with_tokens, after_piece, lexed_after, AreSpans}

-- bytes that are skipped may as well be gone
pub lexed_after-skipped : (place n : ℕ) (bs : List ℕ) → lexed_after place n bs ≡ lexed_after (place + n) zero (drop n bs)
lexed_after-skipped place zero bs = ap (λ p. lexed_after p zero bs) (omega arith)
lexed_after-skipped place (suc n) [] = refl
lexed_after-skipped place (suc n) (b ∷ bs) = lexed_after-skipped (place + 1) n bs ∙ ap (λ p. lexed_after p zero (drop n bs)) (omega arith)

pub lexed-piece : (place : ℕ) (text : List ℕ) (p : Piece) → 0 < length text → piece_at (slice_index text 0) (drop 1 text) ≡ Some p
    → lexed_after place zero text ≡ with_tokens (token_of place p) (lexed_after (place + (p.more + 1)) zero (drop (p.more + 1) text))
lexed-piece place [] p h e = absurd (omega arith)
lexed-piece place (b ∷ bs) p h e =
    let there : lexed_after place zero (b ∷ bs) ≡ with_tokens (token_of place p) (lexed_after (place + 1) p.more bs)
    = ap (λ piece. after_piece place piece (λ more. lexed_after (place + 1) more bs)) e in
    let moved : lexed_after (place + 1) p.more bs ≡ lexed_after (place + (p.more + 1)) zero (drop (p.more + 1) (b ∷ bs))
    = lexed_after-skipped (place + 1) p.more bs ∙ ap (λ q. lexed_after q zero (drop p.more bs)) (omega arith)
    ∙ ap (λ n. lexed_after (place + (p.more + 1)) zero (drop n (b ∷ bs))) (sym (add-one p.more)) in
    there ∙ ap (with_tokens (token_of place p)) moved

pub lexed-none : (place : ℕ) (text : List ℕ) → 0 < length text → piece_at (slice_index text 0) (drop 1 text) ≡ None
    → lexed_after place zero text ≡ record { tokens = []; bad = Some place }
lexed-none place [] h e = absurd (omega arith)
lexed-none place (b ∷ bs) h e = ap (λ piece. after_piece place piece (λ more. lexed_after (place + 1) more bs)) e

-- the tokens in front grow by that of the next piece
pub lexed-cut : (all : Lexed) (front front' : List Token) (place place' : ℕ) (rest rest' : List ℕ) (p : Piece)
    → 0 < length rest → Some p ≡ piece_at (slice_index rest 0) (drop 1 rest) → front' ≡ front ++ token_of place p
    → place' ≡ place + (p.more + 1) → rest' ≡ drop (p.more + 1) rest → all ≡ with_tokens front (lexed_after place zero rest)
    → all ≡ with_tokens front' (lexed_after place' zero rest')
lexed-cut all front front' place place' rest rest' p h e grown on cut so_far =
    so_far ∙ ap (with_tokens front) (lexed-piece place rest p h (sym e)) ∙ regrouped (lexed_after (place + (p.more + 1)) zero (drop (p.more + 1) rest))
    ∙ (λ i. with_tokens (sym grown i) (lexed_after (sym on i) zero (sym cut i)))
  where
    regrouped : (l : Lexed) → with_tokens front (with_tokens (token_of place p) l) ≡ with_tokens (front ++ token_of place p) l
    regrouped l = ap (λ ts. record { tokens = ts; bad = l.bad }) (sym (append_assoc front (token_of place p) l.tokens))

pub spans-grow : (start place : ℕ) (tokens : List Token) (p : Piece) → AreSpans start place tokens
    → AreSpans start (place + (p.more + 1)) (tokens ++ token_of place p)
spans-grow start place [] p within = last p.kind
  where
    from : Option TokenKind → List Token
    from None = []
    from (Some kind) = record { kind = kind; start = place; end = place + p.more + 1 } ∷ []

    last : (kind : Option TokenKind) → AreSpans start (place + (p.more + 1)) (from kind)
    last None = omega arith
    last (Some kind) = (within, omega arith, omega arith)
spans-grow start place (t ∷ ts) p (a, b, rest) = (a, b, spans-grow t.end place ts p rest)

pub place-cut : (place more : ℕ) (rest rest' : List ℕ) (size : ℕ) → more < length rest → rest' ≡ drop (more + 1) rest → place + length rest ≡ size
    → place + (more + 1) + length rest' ≡ size
place-cut place more rest rest' size h cut placed = omega (arith, ap length cut ∙ length-drop (more + 1) rest)

pub rest-shrinks : (more : ℕ) (rest rest' : List ℕ) → more < length rest → rest' ≡ drop (more + 1) rest → length rest' < length rest
rest-shrinks more rest rest' h cut = omega (arith, ap length cut ∙ length-drop (more + 1) rest)

-- where nothing is left, the tokens so far are all
pub lexed-whole : (all : Lexed) (tokens : List Token) (place : ℕ) (rest : List ℕ) → (length rest == 0) ≡ true
    → all ≡ with_tokens tokens (lexed_after place zero rest) → all ≡ record { tokens = tokens; bad = None }
lexed-whole all tokens place [] done so_far = so_far ∙ ap (λ ts. record { tokens = ts; bad = None }) (append-nil tokens)
lexed-whole all tokens place (b ∷ bs) done so_far = let none : suc (length bs) ≡ 0 = eqb-true (suc (length bs)) 0 done in absurd (omega arith)

-- where no piece begins, that place is bad
pub lexed-refused : (all : Lexed) (tokens : List Token) (place : ℕ) (rest : List ℕ) → (length rest == 0) ≡ false
    → piece_at (slice_index rest 0) (drop 1 rest) ≡ None → all ≡ with_tokens tokens (lexed_after place zero rest) → all.bad ≡ Some place
lexed-refused all tokens place [] left none so_far = let f : true ≡ false = left in absurd (cc)
lexed-refused all tokens place (b ∷ bs) left none so_far =
    ap (λ (l : Lexed). l.bad) so_far ∙ ap (λ (l : Lexed). (with_tokens tokens l).bad) (lexed-none place (b ∷ bs) (omega arith) none)
