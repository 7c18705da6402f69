-- The users with their roles are those that the statements of the policy say.
use Rattle.std.proofs.Common.{◌≡◌, ℕ, List, [], ◌∷◌, ◌++◌, map, None, refl, sym, ap, ◌∙◌}
use Rattle.std.specs.List.{flat_map}
use Rattle.flow_lex.specs.declared.token.Token.{Token}
use Rattle.flow_lex.specs.Tokens.{Lexed, lexed}
use Rattle.flow_reader.specs.Symbols.{symbols_of}
use Rattle.flow_policy.specs.Statement.{Statement, gives, allows, separates, binds, Part, free, an_event, symbol, listed, parts}
use Rattle.flow_policy.specs.Texts.{SaysPolicy}
use Rattle.flow_policy.specs.Policy.{memberships}
use Rattle.flow_case.specs.declared.members.Reading.TheVariants.{Begins, Users, Other}
use Rattle.flow_case.specs.Members.{members_from}

users_read : (r u : List ℕ) (us : List (List ℕ)) (ps : List Part) →
    members_from Users r (map symbol (listed free u us ++ ps)) ≡ map (λ x. (x, r)) (u ∷ us) ++ members_from Begins [] (map symbol ps)
users_read r u [] ps = refl
users_read r u (v ∷ us) ps = ap (λ l. (u, r) ∷ l) (users_read r v us ps)

others_read : (e : List ℕ) (es : List (List ℕ)) (ps : List Part) → members_from Other [] (map symbol (listed an_event e es ++ ps)) ≡ members_from Begins [] (map symbol ps)
others_read e [] ps = refl
others_read e (f ∷ es) ps = others_read f es ps

statement_read : (st : Statement) (ps : List Part) → members_from Begins [] (map symbol (parts st ++ ps)) ≡ memberships st ++ members_from Begins [] (map symbol ps)
statement_read (gives r u us) ps = users_read r u us ps
statement_read (allows r e es) ps = others_read e es ps
statement_read (separates e f) ps = refl
statement_read (binds e f) ps = refl

all_read : (sts : List Statement) → members_from Begins [] (map symbol (flat_map parts sts)) ≡ flat_map memberships sts
all_read [] = refl
all_read (st ∷ sts) = statement_read st (flat_map parts sts) ∙ ap (λ l. memberships st ++ l) (all_read sts)

abbrev pub with_list : List Token → Lexed
with_list tokens = record { tokens = tokens; bad = None }

pub members_said : (text : List ℕ) (tokens : List Token) (statements : List Statement) (ms : List (List ℕ × List ℕ)) → lexed text ≡ record { tokens = tokens; bad = None } →
    ms ≡ members_from Begins [] (symbols_of text tokens) → SaysPolicy text statements → ms ≡ flat_map memberships statements
members_said text tokens statements ms lex_is is says =
    let same : tokens ≡ says.tokens = ap (λ (l : Lexed). l.tokens) (sym lex_is ∙ says.cut.lexed) in
    is ∙ ap (λ ts. members_from Begins [] (symbols_of text ts)) same ∙ ap (members_from Begins []) says.spelled ∙ all_read statements
