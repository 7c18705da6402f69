-- What a text says as a policy, and where no policy goes on.
use Rattle.std.specs.Prelude.{◌≡◌, ℕ, suc, ◌<◌, ◌⊎◌, List, ◌++◌, length, take, map, None}
use Rattle.std.specs.List.{flat_map}
use Rattle.flow_lex.specs.declared.token.Token.{Token}
use Rattle.flow_lex.specs.Tokens.{lexed, IsAscii}
use Rattle.flow_grammar.specs.Symbol.{Symbol}
use Rattle.flow_reader.specs.Symbols.{symbols_of}
use Rattle.flow_reader.specs.Reading.{place_of}
use Rattle.flow_policy.specs.Statement.{Statement, symbol, parts}

-- the symbols are those of the statements, one statement after another
abbrev pub SpellsPolicy : List Symbol → List Statement → Type 0
SpellsPolicy ts statements = ts ≡ map symbol (flat_map parts statements)

-- some policy begins with these symbols
abbrev pub IsViable : List Symbol → Type 0
IsViable ts = (rest : List Symbol) × (statements : List Statement) × SpellsPolicy (ts ++ rest) statements

-- place k is the first where no policy goes on: at the symbol there, or at the end
abbrev pub IsStuckAt : List Symbol → ℕ → Type 0
IsStuckAt ts k =
    IsViable (take k ts)
    × ((k < length ts) × ¬ IsViable (take (suc k) ts) ⊎ (k ≡ length ts) × ((statements : List Statement) → ¬ SpellsPolicy ts statements))

-- the text is cut into these tokens
pub record IsCutInto (text : List ℕ) (tokens : List Token) : Type 0 where
  pub ascii : IsAscii text
  pub lexed : lexed text ≡ record { tokens = tokens; bad = None }

-- the text is these statements; of its names nothing is asked
pub record SaysPolicy (text : List ℕ) (statements : List Statement) : Type 0 where
  pub tokens : List Token
  pub cut : IsCutInto text tokens
  pub spelled : SpellsPolicy (symbols_of text tokens) statements

-- at the place stands the first token with which no policy goes on, or the end of a text that ends too early
pub record IsExpectedAt (text : List ℕ) (place : ℕ) : Type 0 where
  pub tokens : List Token
  pub cut : IsCutInto text tokens
  pub number : ℕ
  pub there : place ≡ place_of text tokens number
  pub stuck : IsStuckAt (symbols_of text tokens) number
