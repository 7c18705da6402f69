-- Tokens of a policy that are read one after another.
use Rattle.std.proofs.Common.{◌≡◌, ◌<◌, ◌≤◌, ℕ, List, ◌∷◌, ◌++◌, length, sym, ap, ◌∙◌, subst, append_assoc}
use Rattle.flow_model.specs.Lists.{Each}
use Rattle.flow_lex.specs.declared.token.Token.{Token}
use Rattle.flow_lex.specs.Tokens.{AreSpans, IsSmall}
use Rattle.flow_grammar.specs.Symbol.{Symbol}
use Rattle.flow_reader.specs.Symbols.{symbol_of, symbols_of}
use Rattle.flow_reader.proofs.Loops.{spans_end}
use Rattle.flow_policy_lint.specs.declared.heads.Reading.{Reading}
use Rattle.flow_policy_lint.specs.declared.heads.Word.{Word}
use Rattle.flow_policy_lint.specs.Heads.{reading_after, head_at, heads_from}

-- the tokens that are left stand within the text
pub record Left (text : List ℕ) (rest : List Token) : Type 0 where
  pub start : ℕ
  pub spans : AreSpans start (length text) rest
  pub small : Each (IsSmall text) rest

pub left_first : (text : List ℕ) (tokens : List Token) → AreSpans 0 (length text) tokens → Each (IsSmall text) tokens → Left text tokens
left_first text tokens spans small = record { start = 0; spans = spans; small = small }

pub left_token : (text : List ℕ) (rest more : List Token) (t : Token) → rest ≡ t ∷ more → Left text rest → (t.start < t.end) × (t.end ≤ length text) × IsSmall text t
left_token text rest more t e h =
    let (a, b, later) = subst (AreSpans h.start (length text)) e h.spans in
    let small = subst (Each (IsSmall text)) e h.small in
    (b, spans_end t.end (length text) more later, small.0)

pub left_next : (text : List ℕ) (rest more : List Token) (t : Token) → rest ≡ t ∷ more → Left text rest → Left text more
left_next text rest more t e h =
    let (a, b, later) = subst (AreSpans h.start (length text)) e h.spans in
    let small = subst (Each (IsSmall text)) e h.small in
    record { start = t.end; spans = later; small = small.1 }

pub heads_next : (text : List ℕ) (all found new : List (Word × List ℕ)) (reading q : Reading) (rest more : List Token) (t : Token) (s : Symbol) → rest ≡ t ∷ more →
    s ≡ symbol_of text t → q ≡ reading_after reading s → new ≡ found ++ head_at reading s →
    all ≡ found ++ heads_from reading (symbols_of text rest) → all ≡ new ++ heads_from q (symbols_of text more)
heads_next text all found new reading q rest more t s e is on added so_far =
    so_far ∙ ap (λ l. found ++ heads_from reading (symbols_of text l)) e
    ∙ ap (λ x. found ++ (head_at reading x ++ heads_from (reading_after reading x) (symbols_of text more))) (sym is)
    ∙ sym (append_assoc found (head_at reading s) (heads_from (reading_after reading s) (symbols_of text more)))
    ∙ ap (λ l. l ++ heads_from (reading_after reading s) (symbols_of text more)) (sym added)
    ∙ ap (λ x. new ++ heads_from x (symbols_of text more)) (sym on)
