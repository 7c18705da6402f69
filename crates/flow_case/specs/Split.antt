-- The tokens of a case's rules among those of a policy's text, and the text without them.
use Rattle.std.specs.Prelude.{ℕ, ◌-◌, List, [], ◌∷◌, ◌++◌, take, drop, replicate, Option, Some, None}
use Rattle.flow_lex.specs.declared.token.Token.{Token}
use Rattle.flow_lex.specs.Tokens.{lexed}
use Rattle.flow_grammar.specs.Symbol.{Symbol, a_name, semicolon}
use Rattle.flow_reader.specs.Symbols.{symbol_of}
use Rattle.flow_case.specs.declared.kind.Kind.{Kind}
use Rattle.flow_case.specs.declared.split.Side.{Side}
use Rattle.flow_case.specs.declared.split.Side.TheVariants.{Begins, Policy, Rules}
use Rattle.flow_case.specs.Reading.{kind_of}

-- a statement of the rules begins with final, back or close
abbrev pub side_by : Option Kind → Side
side_by (Some kind) = Rules
side_by None = Policy

-- to what the symbol belongs
abbrev pub side_of : Side → Symbol → Side
side_of Begins (a_name n) = side_by (kind_of n)
side_of Begins other = Policy
side_of Policy other = Policy
side_of Rules other = Rules

-- a semicolon ends each statement
abbrev pub side_behind : Side → Symbol → Side
side_behind side semicolon = Begins
side_behind side other = side

abbrev pub of_rules : Side → Token → List Token
of_rules Begins token = []
of_rules Policy token = []
of_rules Rules token = token ∷ []

-- the tokens of the rules
abbrev pub rule_tokens : List ℕ → Side → List Token → List Token
rule_tokens text side [] = []
rule_tokens text side (t ∷ ts) =
    of_rules (side_of side (symbol_of text t)) t ++ rule_tokens text (side_behind (side_of side (symbol_of text t)) (symbol_of text t)) ts

-- the text from the place on, with spaces in place of the tokens
abbrev pub blanked : List ℕ → ℕ → List Token → List ℕ
blanked text place [] = drop place text
blanked text place (t ∷ ts) = take (t.start - place) (drop place text) ++ (replicate (t.end - t.start) 32 ++ blanked text t.end ts)

-- the tokens of the rules of a text, and what is left for the duties, each token at its place
abbrev pub rules_in : List ℕ → List Token
rules_in text = rule_tokens text Begins (lexed text).tokens

abbrev pub duties_in : List ℕ → List ℕ
duties_in text = blanked text 0 (rules_in text)
