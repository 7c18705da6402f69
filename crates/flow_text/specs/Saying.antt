-- What a text says, by its tokens and the grammar.
use Rattle.std.specs.Prelude.{◌≡◌, ℕ, List, length, None}
use Rattle.flow_model.specs.Lists.{Each}
use Rattle.flow_form.specs.Script.{Said, Asked}
use Rattle.flow_form.specs.Names.{HasGoodNames}
use Rattle.flow_lex.specs.declared.token.Token.{Token}
use Rattle.flow_lex.specs.Tokens.{lexed, IsAscii, AreSpans, IsSmall}
use Rattle.flow_grammar.specs.Symbol.{Placed}
use Rattle.flow_grammar.specs.Texts.{Derives, SpellsScript, SpellsQuery}
use Rattle.flow_reader.specs.Symbols.{symbols_of}
use Rattle.flow_text.specs.GoodNames.{AsksOfEvents}

-- the text is cut into these tokens
pub record HasTokens (text : List ℕ) (tokens : List Token) : Type 0 where
  pub ascii : IsAscii text
  pub lexed : lexed text ≡ record { tokens = tokens; bad = None }

-- the same of tokens that stand within the text one behind the other, and whose numbers have 32 bits
pub record IsLexed (text : List ℕ) (tokens : List Token) : Type 0 where
  pub has_tokens : HasTokens text tokens
  pub spans : AreSpans 0 (length text) tokens
  pub small : Each (IsSmall text) tokens

-- a text with tokens
pub record TextInTokens : Type 0 where
  pub text : List ℕ
  pub tokens : List Token

-- the grammar derives x from the text; of its names nothing is asked
pub record Writes {V : Type 0} (Spells : List Placed → V → Type 0) (text : List ℕ) (x : V) : Type 0 where
  pub tokens : List Token
  pub has_tokens : HasTokens text tokens
  pub derives : Derives Spells (symbols_of text tokens) x

-- the text says this: the grammar derives it, and each name is declared once and as it must be
pub record Says (text : List ℕ) (s : Said) : Type 0 where
  pub writes : Writes SpellsScript text s
  pub named : HasGoodNames s

-- the text asks this of the workflow
pub record Asks (text : List ℕ) (s : Said) (q : Asked) : Type 0 where
  pub writes : Writes SpellsQuery text q
  pub of_events : AsksOfEvents q s
