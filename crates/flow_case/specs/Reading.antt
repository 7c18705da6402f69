-- What the statements of a case's rules say: WORD NAME, NAME ..; where the word is final, back or close.
use Rattle.std.specs.Prelude.{ℕ, Bool, true, false, if◌then◌else◌, List, [], ◌∷◌, ◌++◌, length, Option, Some, None, Result, Ok, Err, codes}
use Rattle.flow_lex.specs.declared.token.Token.{Token}
use Rattle.flow_grammar.specs.Symbol.{Symbol, a_name, comma, semicolon}
use Rattle.flow_reader.specs.Symbols.{is, symbol_of}
use Rattle.flow_case.specs.declared.kind.Kind.{Kind}
use Rattle.flow_case.specs.declared.kind.Kind.TheVariants.{Final, Back, Close}
use Rattle.flow_case.specs.declared.kind.RuleStage.{RuleStage}
use Rattle.flow_case.specs.declared.kind.RuleStage.TheVariants.{WordNeeded, NameNeeded, AfterName}

-- the word with which a statement begins
abbrev pub kind_of : List ℕ → Option Kind
kind_of n =
    if is n (codes "final") then Some Final
    else (if is n (codes "back") then Some Back
    else (if is n (codes "close") then Some Close
    else None))

abbrev pub after_word : Option Kind → Option RuleStage
after_word (Some kind) = Some (NameNeeded kind)
after_word None = None

-- the stage behind a symbol; None where no rule goes on with it
abbrev pub next : RuleStage → Symbol → Option RuleStage
next WordNeeded (a_name n) = after_word (kind_of n)
next (NameNeeded kind) (a_name n) = Some (AfterName kind)
next (AfterName kind) comma = Some (NameNeeded kind)
next (AfterName kind) semicolon = Some WordNeeded
next stage other = None

-- a name that the rules give, and its place in the text
pub record Given : Type 0 where
  pub kind : Kind
  pub place : ℕ
  pub name : List ℕ

abbrev pub is_kind : Kind → Kind → Bool
is_kind Final Final = true
is_kind Back Back = true
is_kind Close Close = true
is_kind kind other = false

-- the names that statements of the kind give
abbrev pub names_given : Kind → List Given → List (List ℕ)
names_given kind [] = []
names_given kind (g ∷ gs) = if is_kind kind g.kind then g.name ∷ names_given kind gs else names_given kind gs

-- the names of a symbol at the stage
abbrev pub given_at : RuleStage → ℕ → Symbol → List Given
given_at (NameNeeded kind) place (a_name n) = record { kind = kind; place = place; name = n } ∷ []
given_at stage place other = []

abbrev pub and_then : List Given → Result (List Given) ℕ → Result (List Given) ℕ
and_then given (Ok more) = Ok (given ++ more)
and_then given (Err place) = Err place

-- the text ends at the stage
abbrev pub ended : List ℕ → RuleStage → Result (List Given) ℕ
ended text WordNeeded = Ok []
ended text (NameNeeded kind) = Err (length text)
ended text (AfterName kind) = Err (length text)

abbrev pub behind : Option RuleStage → ℕ → (RuleStage → Result (List Given) ℕ) → Result (List Given) ℕ
behind None place later = Err place
behind (Some stage) place later = later stage

-- What the tokens say from the stage on: the names in order; or the place of the first token with which no rule goes on, which is the end of
-- the text where that ends too early.
abbrev pub read_from : List ℕ → RuleStage → List Token → Result (List Given) ℕ
read_from text stage [] = ended text stage
read_from text stage (t ∷ ts) =
    behind (next stage (symbol_of text t)) t.start (λ q. and_then (given_at stage t.start (symbol_of text t)) (read_from text q ts))
