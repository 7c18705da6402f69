-- The constraints of a text as they are written, by its tokens.
use Rattle.std.specs.Prelude.{◌≡◌, ℕ, Bool, true, false, ◌&&◌, ◌||◌, nat_lt, nat_le, if◌then◌else◌, List, [], ◌∷◌, ◌++◌, length, Option, None, Some, codes}
use Rattle.flow_lex.specs.declared.token.Token.{Token}
use Rattle.flow_lex.specs.declared.token.TokenKind.{TokenKind}
use Rattle.flow_lex.specs.declared.token.TokenKind.TheVariants.{Word, Number, Mark}
use Rattle.flow_lex.specs.Tokens.{lexed, bytes_of, IsAscii}
use Rattle.flow_grammar.specs.Symbol.{Symbol, constraint_word, semicolon, opening, closing}
use Rattle.flow_reader.specs.Symbols.{symbol_of}
use Rattle.flow_why_cli.specs.declared.rule_words.WrittenRule.{WrittenRule}

-- the text is ASCII, and cut into tokens up to its end
abbrev pub HasTokens : List ℕ → Type 0
HasTokens text = IsAscii text × ((lexed text).bad ≡ None)

-- the word or mark that a token of the text is, if it is one
abbrev pub symbol_of_kind : TokenKind → List ℕ → Token → Option Symbol
symbol_of_kind Word text token = Some (symbol_of text token)
symbol_of_kind Number text token = None
symbol_of_kind Mark text token = Some (symbol_of text token)

abbrev pub symbol_at : List ℕ → Token → Option Symbol
symbol_at text token =
    if nat_lt token.start token.end && nat_le token.end (length text) then symbol_of_kind token.kind text token else None

-- a constraint begins with its word, and ends with a semicolon
abbrev pub begins_rule : Option Symbol → Bool
begins_rule (Some constraint_word) = true
begins_rule other = false

abbrev pub ends_rule : Option Symbol → Bool
ends_rule (Some semicolon) = true
ends_rule other = false

-- a parenthesis is joined to what it encloses
abbrev pub opens : Option Symbol → Bool
opens (Some opening) = true
opens other = false

abbrev pub closes : Option Symbol → Bool
closes (Some closing) = true
closes other = false

abbrev pub blank_before : Bool → Option Symbol → List ℕ
blank_before joined symbol = if joined || closes symbol then [] else codes " "

-- the words of the tokens up to a semicolon, with a blank between two of them; the first is joined to what stands before or not
abbrev pub rule_words : List ℕ → Bool → List Token → List ℕ
rule_words text joined [] = []
rule_words text joined (t ∷ ts) =
    if ends_rule (symbol_at text t) then []
    else blank_before joined (symbol_at text t) ++ bytes_of text t ++ rule_words text (opens (symbol_at text t)) ts

-- where the word of a constraint stands, and what stands between it and the semicolon
pub record Rule : Type 0 where
  pub place : ℕ
  pub words : List ℕ

abbrev pub rule_of : WrittenRule → Rule
rule_of rule = record { place = rule.place; words = rule.text.items }

-- each constraint that the tokens write, in order
abbrev pub rules_of : List ℕ → List Token → List Rule
rules_of text [] = []
rules_of text (t ∷ ts) =
    if begins_rule (symbol_at text t) then record { place = t.start; words = rule_words text true ts } ∷ rules_of text ts else rules_of text ts
