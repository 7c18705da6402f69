-- Tokens that are read one after another.
use Rattle.std.proofs.Common.{◌≡◌, ◌≢◌, ◌<◌, ◌≤◌, ℕ, List, [], ◌∷◌, ◌++◌, length, Some, None, Result, Ok, Err, refl, sym, ap, ◌∙◌, subst, append-nil, append_assoc}
use Rattle.flow_model.specs.Lists.{Each}
use Rattle.flow_lex.specs.declared.token.Token.{Token}
use Rattle.flow_lex.specs.Tokens.{AreSpans, IsSmall}
use Rattle.flow_grammar.specs.Symbol.{Symbol}
use Rattle.flow_reader.specs.Symbols.{symbol_of, symbols_of}
use Rattle.flow_reader.proofs.Loops.{spans_end}
use Rattle.flow_case.specs.declared.kind.RuleStage.{RuleStage}
use Rattle.flow_case.specs.declared.kind.RuleStage.TheVariants.{WordNeeded, NameNeeded, AfterName}
use Rattle.flow_case.specs.declared.members.Reading.{Reading}
use Rattle.flow_case.specs.Reading.{Given, next, given_at, and_then, behind, read_from}
use Rattle.flow_case.specs.Members.{reading_after, role_after, member_at, members_from}

-- the tokens that are left stand within the text
pub record Left (text : List ℕ) (rest : List Token) : Type 0 where
  pub start : ℕ
  pub spans : AreSpans start (length text) rest
  pub small : Each (IsSmall text) rest

pub left_first : (text : List ℕ) (tokens : List Token) → AreSpans 0 (length text) tokens → Each (IsSmall text) tokens → Left text tokens
left_first text tokens spans small = record { start = 0; spans = spans; small = small }

pub left_token : (text : List ℕ) (rest more : List Token) (t : Token) → rest ≡ t ∷ more → Left text rest → (t.start < t.end) × (t.end ≤ length text) × IsSmall text t
left_token text rest more t e h =
    let (a, b, later) = subst (AreSpans h.start (length text)) e h.spans in
    let small = subst (Each (IsSmall text)) e h.small in
    (b, spans_end t.end (length text) more later, small.0)

pub left_next : (text : List ℕ) (rest more : List Token) (t : Token) → rest ≡ t ∷ more → Left text rest → Left text more
left_next text rest more t e h =
    let (a, b, later) = subst (AreSpans h.start (length text)) e h.spans in
    let small = subst (Each (IsSmall text)) e h.small in
    record { start = t.end; spans = later; small = small.1 }

-- What the rules give

and_then_twice : (xs ys : List Given) (r : Result (List Given) ℕ) → and_then xs (and_then ys r) ≡ and_then (xs ++ ys) r
and_then_twice xs ys (Ok more) = ap Ok (sym (append_assoc xs ys more))
and_then_twice xs ys (Err place) = refl

pub read_first : (r : Result (List Given) ℕ) → r ≡ and_then [] r
read_first (Ok more) = refl
read_first (Err place) = refl

pub read_next : (text : List ℕ) (all : Result (List Given) ℕ) (given new : List Given) (stage q : RuleStage) (rest more : List Token) (t : Token) (s : Symbol) → rest ≡ t ∷ more →
    s ≡ symbol_of text t → next stage s ≡ Some q → new ≡ given ++ given_at stage t.start s → all ≡ and_then given (read_from text stage rest) → all ≡ and_then new (read_from text q more)
read_next text all given new stage q rest more t s e is on added so_far =
    so_far ∙ ap (λ l. and_then given (read_from text stage l)) e
    ∙ ap (λ o. and_then given (behind o t.start (λ x. and_then (given_at stage t.start (symbol_of text t)) (read_from text x more)))) (ap (next stage) (sym is) ∙ on)
    ∙ ap (λ x. and_then given (and_then (given_at stage t.start x) (read_from text q more))) (sym is)
    ∙ and_then_twice given (given_at stage t.start s) (read_from text q more) ∙ ap (λ l. and_then l (read_from text q more)) (sym added)

pub read_stuck : (text : List ℕ) (all : Result (List Given) ℕ) (given : List Given) (stage : RuleStage) (rest more : List Token) (t : Token) (s : Symbol) → rest ≡ t ∷ more →
    s ≡ symbol_of text t → next stage s ≡ None → all ≡ and_then given (read_from text stage rest) → all ≡ Err t.start
read_stuck text all given stage rest more t s e is off so_far =
    so_far ∙ ap (λ l. and_then given (read_from text stage l)) e
    ∙ ap (λ o. and_then given (behind o t.start (λ x. and_then (given_at stage t.start (symbol_of text t)) (read_from text x more)))) (ap (next stage) (sym is) ∙ off)

pub read_end : (text : List ℕ) (all : Result (List Given) ℕ) (given : List Given) (stage : RuleStage) → stage ≢ WordNeeded → all ≡ and_then given (read_from text stage []) →
    all ≡ Err (length text)
read_end text all given WordNeeded other so_far = absurd (other refl)
read_end text all given (NameNeeded kind) other so_far = so_far
read_end text all given (AfterName kind) other so_far = so_far

pub read_all : (text : List ℕ) (all : Result (List Given) ℕ) (given : List Given) → all ≡ and_then given (read_from text WordNeeded []) → all ≡ Ok given
read_all text all given so_far = so_far ∙ ap Ok (append-nil given)

-- Users with their roles

pub members_next : (text : List ℕ) (all found new : List (List ℕ × List ℕ)) (reading q : Reading) (role role' : List ℕ) (rest more : List Token) (t : Token) (s : Symbol) → rest ≡ t ∷ more →
    s ≡ symbol_of text t → q ≡ reading_after reading s → role' ≡ role_after reading role s → new ≡ found ++ member_at reading role s →
    all ≡ found ++ members_from reading role (symbols_of text rest) → all ≡ new ++ members_from q role' (symbols_of text more)
members_next text all found new reading q role role' rest more t s e is on given added so_far =
    so_far ∙ ap (λ l. found ++ members_from reading role (symbols_of text l)) e
    ∙ ap (λ x. found ++ (member_at reading role x ++ members_from (reading_after reading x) (role_after reading role x) (symbols_of text more))) (sym is)
    ∙ sym (append_assoc found (member_at reading role s) (members_from (reading_after reading s) (role_after reading role s) (symbols_of text more)))
    ∙ ap (λ l. l ++ members_from (reading_after reading s) (role_after reading role s) (symbols_of text more)) (sym added)
    ∙ ap (λ x. new ++ members_from x (role_after reading role s) (symbols_of text more)) (sym on)
    ∙ ap (λ x. new ++ members_from q x (symbols_of text more)) (sym given)
