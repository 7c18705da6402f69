-- The tokens of a text are symbols that can be written.
use Rattle.std.proofs.Common.{rules, ◌≡◌, ℕ, ◌<◌, ◌^◌, Bool, if◌then◌else◌, List, [], ◌∷◌, refl, sym, ap, subst, ◌∙◌}
use Rattle.std.specs.Prelude.{Option, Some, None, slice_index_or}
use Rattle.std.proofs.lemmas.List.{append-nil}
use Rattle.flow_model.specs.Lists.{Each}
use Rattle.flow_lex.specs.declared.token.Token.{Token}
use Rattle.flow_lex.specs.declared.token.TokenKind.{TokenKind}
use Rattle.flow_lex.specs.declared.token.TokenKind.TheVariants.{Word, Number, Mark}
use Rattle.flow_lex.specs.Bytes.{number_value}
use Rattle.flow_lex.specs.Tokens.{lexed, bytes_of, IsSmall}
use Rattle.flow_lex.proofs.EachToken.{Has, each-read}
use Rattle.flow_lex.proofs.Small.{IsWord, piece-is-word, small-front}
use Rattle.flow_grammar.specs.Symbol.{Symbol, a_name, a_number}
use Rattle.flow_reader.specs.Symbols.{or_else, word_of_declarations, word_of_goals, word_of_constraints, reserved, word_symbol, mark_symbol, symbol_of, symbols_of}
use Rattle.flow_text.specs.Printable.{IsName}

-- a name is one, a number has 32 bits
abbrev pub IsWritable : Symbol → Type 0
IsWritable (a_name n) = IsName n
IsWritable (a_number n) = n < 2 ^ 32
IsWritable _ = Unit {0}

abbrev MayBeWritable : Option Symbol → Type 0
MayBeWritable None = Unit {0}
MayBeWritable (Some s) = IsWritable s

or-if : (t : Bool) (s : Symbol) (o : Option Symbol) → IsWritable s → MayBeWritable o → MayBeWritable (if t then Some s else o)
or-if t s o h k = search rules

declaring : (w : List ℕ) → MayBeWritable (word_of_declarations w)
declaring w = search or-if depth 9

of_goals : (w : List ℕ) → MayBeWritable (word_of_goals w)
of_goals w = search or-if depth 9

of_constraints : (w : List ℕ) → MayBeWritable (word_of_constraints w)
of_constraints w = search or-if depth 10

either-writable : (o p : Option Symbol) → MayBeWritable o → MayBeWritable p → MayBeWritable (or_else o p)
either-writable o p h k = search rules

reserved-writable : (w : List ℕ) → MayBeWritable (reserved w)
reserved-writable w =
    either-writable (word_of_declarations w) (or_else (word_of_goals w) (word_of_constraints w)) (declaring w)
    (either-writable (word_of_goals w) (word_of_constraints w) (of_goals w) (of_constraints w))

is-name : (w : List ℕ) → IsWord Word w → reserved w ≡ None → IsName w
is-name [] h e = h refl
is-name (b ∷ bs) h e = let (letter, more) = h refl in (letter, more, e)

word-writable : (w : List ℕ) → IsWord Word w → IsWritable (word_symbol w)
word-writable w h = from (reserved w) refl (reserved-writable w)
  where
    symbol : Option Symbol → Symbol
    symbol (Some s) = s
    symbol None = a_name w

    from : (o : Option Symbol) → reserved w ≡ o → MayBeWritable o → IsWritable (symbol o)
    from (Some s) e k = k
    from None e k = is-name w h e

mark-if : (t : Bool) (s other : Symbol) → IsWritable s → IsWritable other → IsWritable (if t then s else other)
mark-if t s other h k = search rules

mark-writable : (b : ℕ) → IsWritable (mark_symbol b)
mark-writable b = search mark-if depth 11

token-writable : (text : List ℕ) (t : Token) → Has IsWord text t → IsSmall text t → IsWritable (symbol_of text t)
token-writable text t word small = from t.kind refl
  where
    symbol : TokenKind → Symbol
    symbol Word = word_symbol (bytes_of text t)
    symbol Number = a_number (number_value (bytes_of text t))
    symbol Mark = mark_symbol (slice_index_or text t.start 0)

    from : (kind : TokenKind) → t.kind ≡ kind → IsWritable (symbol kind)
    from Word e = word-writable (bytes_of text t) (subst (λ kind. IsWord kind (bytes_of text t)) e word)
    from Number e = small e
    from Mark e = mark-writable (slice_index_or text t.start 0)

all-writable : (text : List ℕ) (ts : List Token) → Each (Has IsWord text) ts → Each (IsSmall text) ts → Each IsWritable (symbols_of text ts)
all-writable text [] words smalls = tt
all-writable text (t ∷ ts) (word, words) (small, smalls) = (token-writable text t word small, all-writable text ts words smalls)

pub tokens-writable : (text : List ℕ) (tokens : List Token) → lexed text ≡ record { tokens = tokens; bad = None } → Each IsWritable (symbols_of text tokens)
tokens-writable text tokens e =
    all-writable text tokens (each-read IsWord piece-is-word text tokens e)
    (small-front text tokens (record { tokens = []; bad = None }) (e ∙ ap (λ ts. record { tokens = ts; bad = None }) (sym (append-nil tokens))))
