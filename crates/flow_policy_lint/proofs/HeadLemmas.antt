-- What is read of a policy's symbols is what its statements begin with.
use Rattle.std.proofs.Common.{◌≡◌, ℕ, List, [], ◌∷◌, ◌++◌, map, None, refl, sym, ap, ◌∙◌}
use Rattle.std.specs.List.{flat_map}
use Rattle.flow_lex.specs.declared.token.Token.{Token}
use Rattle.flow_lex.specs.Tokens.{Lexed, lexed}
use Rattle.flow_reader.specs.Symbols.{symbols_of}
use Rattle.flow_policy.specs.Statement.{Statement, gives, allows, separates, binds, Part, free, an_event, symbol, listed, parts}
use Rattle.flow_policy.specs.Texts.{SaysPolicy}
use Rattle.flow_policy_lint.specs.declared.heads.Word.{Word}
use Rattle.flow_policy_lint.specs.declared.heads.Reading.TheVariants.{Begins, Other}
use Rattle.flow_policy_lint.specs.Heads.{head_of, heads_from}

events_read : (e : List ℕ) (es : List (List ℕ)) (ps : List Part) → heads_from Other (map symbol (listed an_event e es ++ ps)) ≡ heads_from Begins (map symbol ps)
events_read e [] ps = refl
events_read e (f ∷ es) ps = events_read f es ps

users_read : (u : List ℕ) (us : List (List ℕ)) (ps : List Part) → heads_from Other (map symbol (listed free u us ++ ps)) ≡ heads_from Begins (map symbol ps)
users_read u [] ps = refl
users_read u (v ∷ us) ps = users_read v us ps

statement_read : (st : Statement) (ps : List Part) → heads_from Begins (map symbol (parts st ++ ps)) ≡ head_of st ∷ heads_from Begins (map symbol ps)
statement_read (gives r u us) ps = ap (λ l. head_of (gives r u us) ∷ l) (users_read u us ps)
statement_read (allows r e es) ps = ap (λ l. head_of (allows r e es) ∷ l) (events_read e es ps)
statement_read (separates e f) ps = refl
statement_read (binds e f) ps = refl

all_read : (sts : List Statement) → heads_from Begins (map symbol (flat_map parts sts)) ≡ map head_of sts
all_read [] = refl
all_read (st ∷ sts) = statement_read st (flat_map parts sts) ∙ ap (λ l. head_of st ∷ l) (all_read sts)

abbrev pub with_list : List Token → Lexed
with_list tokens = record { tokens = tokens; bad = None }

pub heads_are_said : (text : List ℕ) (tokens : List Token) (statements : List Statement) (found : List (Word × List ℕ)) → lexed text ≡ record { tokens = tokens; bad = None } →
    found ≡ heads_from Begins (symbols_of text tokens) → SaysPolicy text statements → found ≡ map head_of statements
heads_are_said text tokens statements found lex_is is says =
    let same : tokens ≡ says.tokens = ap (λ (l : Lexed). l.tokens) (sym lex_is ∙ says.cut.lexed) in
    is ∙ ap (λ ts. heads_from Begins (symbols_of text ts)) same ∙ ap (heads_from Begins) says.spelled ∙ all_read statements
