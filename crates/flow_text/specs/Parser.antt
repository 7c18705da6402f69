-- Why a text says nothing, and where.
use Rattle.std.specs.Prelude.{◌≡◌, ℕ, List, [], ◌∷◌, ◌++◌, take, map, Option, Some, None, slice_get}
use Rattle.std.proofs.Common.{Bor}
use Rattle.flow_form.specs.declared.refusal.Wanted.{Wanted}
use Rattle.flow_form.specs.declared.refusal.TextRefusal.{TextRefusal}
use Rattle.flow_form.specs.declared.refusal.TextRefusal.TheVariants.{NotAscii, BadToken, Expected, Unknown, Repeated, TooDeep, NoMemory}
use Rattle.flow_form.specs.Script.{Said, Asked}
use Rattle.flow_lex.specs.declared.token.Token.{Token}
use Rattle.flow_lex.specs.Tokens.{lexed, IsAscii, IsFirstNotAscii}
use Rattle.flow_grammar.specs.Symbol.{Symbol, a_name, Placed}
use Rattle.flow_grammar.specs.Machine.{script_wants, query_wants}
use Rattle.flow_grammar.specs.Laws.{StandsFor, MayEnd}
use Rattle.flow_grammar.specs.Roles.{Role, role_name, script_roles, query_roles}
use Rattle.flow_grammar.specs.Texts.{IsStuckAt, NoneDeepBefore, StandsDeep, IsViable, IsWhole, SpellsScript, SpellsQuery}
use Rattle.flow_reader.specs.Symbols.{symbol_of, symbols_of}
use Rattle.flow_reader.specs.Reading.{place_of}
use Rattle.flow_text.specs.GoodNames.{IsFirstRepeated, IsFirstUnknown, AsksFirstOfOther}
use Rattle.flow_text.specs.Saying.{HasTokens, Writes}

-- at the place stands the first token with which no text goes on, or the end of a text that ends too early; the kind is
-- that which the table has for where the reading stands after the tokens before, and each token of that kind could come
-- there, and the end if it is of that kind
pub record IsExpected {V : Type 0} (Spells : List Placed → V → Type 0) (wants : List Symbol → Option Wanted) (text : List ℕ) (place : ℕ) (kind : Wanted) : Type 0 where
  pub tokens : List Token
  pub has_tokens : HasTokens text tokens
  pub number : ℕ
  pub there : place ≡ place_of text tokens number
  pub stuck : IsStuckAt Spells (symbols_of text tokens) number
  pub none_deep : NoneDeepBefore Spells (symbols_of text tokens) number
  pub wanted : wants (take number (symbols_of text tokens)) ≡ Some kind
  pub could_come : (t : Symbol) → StandsFor kind t → IsViable Spells (take number (symbols_of text tokens) ++ t ∷ [])
  pub could_end : MayEnd kind → IsWhole Spells (take number (symbols_of text tokens))

-- at the place stands the first parenthesis or `not` that is inside GREATEST_DEPTH others, with which a text could go on
pub record IsTooDeep {V : Type 0} (Spells : List Placed → V → Type 0) (text : List ℕ) (place : ℕ) : Type 0 where
  pub tokens : List Token
  pub has_tokens : HasTokens text tokens
  pub number : ℕ
  pub there : place ≡ place_of text tokens number
  pub deep : StandsDeep Spells (symbols_of text tokens) number
  pub none_before : NoneDeepBefore Spells (symbols_of text tokens) number

-- the bytes behind a reference
abbrev pub bytes_now : Bor (List ℕ) → List ℕ
bytes_now b = b.now

-- the name that the symbol is, if it is one
abbrev pub name_in : Symbol → Option (List ℕ)
name_in (a_name n) = Some n
name_in _ = None

abbrev pub with_place : ℕ → Option (List ℕ) → List (ℕ × List ℕ) → List (ℕ × List ℕ)
with_place place None names = names
with_place place (Some n) names = (place, n) ∷ names

-- the names among the tokens, each with its place
abbrev pub named_places : List ℕ → List Token → List (ℕ × List ℕ)
named_places text [] = []
named_places text (t ∷ ts) = with_place t.start (name_in (symbol_of text t)) (named_places text ts)

-- that name stands at the place as name number k of the text
pub record IsNameAt (text : List ℕ) (roles : List Role) (k place : ℕ) (name : List ℕ) : Type 0 where
  pub tokens : List Token
  pub has_tokens : HasTokens text tokens
  pub there : slice_get (named_places text tokens) k ≡ Some (place, name)
  pub named : slice_get (map role_name roles) k ≡ Some name

-- the grammar derives something of the text, and the name there is the first of its names that is so
pub record IsFirstNameAt {V : Type 0} (Spells : List Placed → V → Type 0) (roles : V → List Role) (IsSo : V → ℕ → Type 0) (text : List ℕ) (place : ℕ) (name : List ℕ) : Type 0 where
  pub value : V
  pub writes : Writes Spells text value
  pub number : ℕ
  pub first : IsSo value number
  pub there : IsNameAt text (roles value) number place name

-- a kind of text: what spells its values, what is wanted after symbols that end too early, and which names it may not have,
-- each with its place: those that are declared again, and those that are not known
pub record TextKind (V : Type 0) : Type 1 where
  pub spells : List Placed → V → Type 0
  pub wants : List Symbol → Option Wanted
  pub again : ℕ → List ℕ → Type 0
  pub unknown : ℕ → List ℕ → Type 0

-- the refusal is the first that applies to the text; want of memory says nothing of it
abbrev pub IsTextRefusal : {V : Type 0} → TextKind V → List ℕ → TextRefusal → Type 0
IsTextRefusal kind text (NotAscii place) = IsFirstNotAscii text place
IsTextRefusal kind text (BadToken place) = IsAscii text × ((lexed text).bad ≡ Some place)
IsTextRefusal kind text (Expected place wanted) = IsExpected kind.spells kind.wants text place wanted
IsTextRefusal kind text (TooDeep place) = IsTooDeep kind.spells text place
IsTextRefusal kind text (Repeated place name) = kind.again place name
IsTextRefusal kind text (Unknown place name) = kind.unknown place name
IsTextRefusal kind text NoMemory = Unit {0}

-- of a workflow: a name that is declared a second time, and only where there is none, one that is not declared as it must be
abbrev pub of_script : List ℕ → TextKind Said
of_script text = record {
  spells = SpellsScript;
  wants = script_wants;
  again = IsFirstNameAt SpellsScript script_roles IsFirstRepeated text;
  unknown = IsFirstNameAt SpellsScript script_roles IsFirstUnknown text;
}

-- of a query to a workflow: a name that is not that of an event
abbrev pub of_query : List ℕ → Said → TextKind Asked
of_query text s = record {
  spells = SpellsQuery;
  wants = query_wants;
  again = λ place name. ⊥;
  unknown = IsFirstNameAt SpellsQuery query_roles (λ q k. AsksFirstOfOther q s k) text;
}

abbrev pub IsParseRefusal : List ℕ → TextRefusal → Type 0
IsParseRefusal text = IsTextRefusal (of_script text) text

abbrev pub IsQueryRefusal : List ℕ → Said → TextRefusal → Type 0
IsQueryRefusal text s = IsTextRefusal (of_query text s) text
