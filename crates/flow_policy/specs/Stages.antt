-- The reading of a policy, a symbol a step.
use Rattle.std.specs.Prelude.{ℕ, if◌then◌else◌, List, [], ◌∷◌, ◌++◌, Option, Some, None, codes}
use Rattle.flow_grammar.specs.Symbol.{Symbol, a_name, equals, comma, semicolon}
use Rattle.flow_lex.specs.declared.token.Token.{Token}
use Rattle.flow_reader.specs.Symbols.{is, symbol_of}
use Rattle.flow_policy.specs.declared.stage.Stage.{Stage}
use Rattle.flow_policy.specs.declared.stage.Stage.TheVariants.{StatementNeeded, RoleNeeded, EqualsNeeded, UserNeeded, AfterUser, AllowedNeeded, EventNeeded, AfterEvent, SeparateFirst, SeparateSecond, BindFirst, BindSecond, PairRead}

-- the word with which a statement begins
abbrev pub after_word : List ℕ → Option Stage
after_word n =
    if is n (codes "role") then Some RoleNeeded
    else (if is n (codes "allow") then Some AllowedNeeded
    else (if is n (codes "separate") then Some SeparateFirst
    else (if is n (codes "bind") then Some BindFirst
    else None)))

abbrev pub after_name : Stage → List ℕ → Option Stage
after_name StatementNeeded n = after_word n
after_name RoleNeeded n = Some EqualsNeeded
after_name UserNeeded n = Some AfterUser
after_name AllowedNeeded n = Some EventNeeded
after_name EventNeeded n = Some AfterEvent
after_name SeparateFirst n = Some SeparateSecond
after_name SeparateSecond n = Some PairRead
after_name BindFirst n = Some BindSecond
after_name BindSecond n = Some PairRead
after_name _ n = None

abbrev pub after_equals : Stage → Option Stage
after_equals EqualsNeeded = Some UserNeeded
after_equals _ = None

abbrev pub after_comma : Stage → Option Stage
after_comma AfterUser = Some UserNeeded
after_comma AfterEvent = Some EventNeeded
after_comma _ = None

abbrev pub after_semicolon : Stage → Option Stage
after_semicolon AfterUser = Some StatementNeeded
after_semicolon AfterEvent = Some StatementNeeded
after_semicolon PairRead = Some StatementNeeded
after_semicolon _ = None

-- the stage behind a symbol; None where no policy goes on with it
abbrev pub next : Stage → Symbol → Option Stage
next s (a_name n) = after_name s n
next s equals = after_equals s
next s comma = after_comma s
next s semicolon = after_semicolon s
next s _ = None

-- what follows at the stage, if there is one
abbrev pub behind : {A : Type 0} → A → Option Stage → (Stage → A) → A
behind nothing None f = nothing
behind nothing (Some q) f = f q

-- the stage behind symbols
abbrev pub reached : Stage → List Symbol → Option Stage
reached s [] = Some s
reached s (t ∷ ts) = behind None (next s t) (λ q. reached q ts)

-- a name, with the stage of the reading at which it stands, and its place in the text
pub record Mentioned : Type 0 where
  pub stage : Stage
  pub place : ℕ
  pub name : List ℕ

abbrev pub mention_of : Stage → ℕ → Symbol → List Mentioned
mention_of s place (a_name n) = record { stage = s; place = place; name = n } ∷ []
mention_of s place _ = []

-- the names among the tokens, from the stage on
abbrev pub mentions_from : List ℕ → Stage → List Token → List Mentioned
mentions_from text s [] = []
mentions_from text s (t ∷ ts) =
    mention_of s t.start (symbol_of text t) ++ behind [] (next s (symbol_of text t)) (λ q. mentions_from text q ts)
