-- The roles that are read are those that the statements of the policy allow the event.
use Rattle.std.proofs.Common.{◌≡◌, ℕ, List, [], ◌∷◌, ◌++◌, map, None, refl, sym, ap, ◌∙◌, append_assoc}
use Rattle.std.specs.List.{flat_map}
use Rattle.flow_lex.specs.declared.token.Token.{Token}
use Rattle.flow_lex.specs.Tokens.{Lexed, lexed}
use Rattle.flow_reader.specs.Symbols.{symbols_of}
use Rattle.flow_policy.specs.Statement.{Statement, gives, allows, separates, binds, Part, free, an_event, symbol, listed, parts}
use Rattle.flow_policy.specs.Texts.{SaysPolicy}
use Rattle.flow_policy.specs.Policy.{allowances}
use Rattle.flow_staff.specs.declared.roles.Reading.TheVariants.{Begins, Events, Other}
use Rattle.flow_staff.specs.Roles.{role_for, roles_from, roles_said}

flat_of_two : {A B : Type 0} (f : A → List B) (xs ys : List A) → flat_map f (xs ++ ys) ≡ flat_map f xs ++ flat_map f ys
flat_of_two f [] ys = refl
flat_of_two f (x ∷ xs) ys = ap (λ l. f x ++ l) (flat_of_two f xs ys) ∙ sym (append_assoc (f x) (flat_map f xs) (flat_map f ys))

events_read : (event r e : List ℕ) (es : List (List ℕ)) (ps : List Part) →
    roles_from event Events r (map symbol (listed an_event e es ++ ps)) ≡ flat_map (role_for event) (map (λ x. (r, x)) (e ∷ es)) ++ roles_from event Begins [] (map symbol ps)
events_read event r e [] ps = sym (append_assoc (role_for event (r, e)) [] (roles_from event Begins [] (map symbol ps)))
events_read event r e (f ∷ es) ps =
    ap (λ l. role_for event (r, e) ++ l) (events_read event r f es ps)
    ∙ sym (append_assoc (role_for event (r, e)) (flat_map (role_for event) (map (λ x. (r, x)) (f ∷ es))) (roles_from event Begins [] (map symbol ps)))

users_read : (event u : List ℕ) (us : List (List ℕ)) (ps : List Part) → roles_from event Other [] (map symbol (listed free u us ++ ps)) ≡ roles_from event Begins [] (map symbol ps)
users_read event u [] ps = refl
users_read event u (v ∷ us) ps = users_read event v us ps

statement_read : (event : List ℕ) (st : Statement) (ps : List Part) →
    roles_from event Begins [] (map symbol (parts st ++ ps)) ≡ flat_map (role_for event) (allowances st) ++ roles_from event Begins [] (map symbol ps)
statement_read event (gives r u us) ps = users_read event u us ps
statement_read event (allows r e es) ps = events_read event r e es ps
statement_read event (separates e f) ps = refl
statement_read event (binds e f) ps = refl

all_read : (event : List ℕ) (sts : List Statement) → roles_from event Begins [] (map symbol (flat_map parts sts)) ≡ flat_map (role_for event) (flat_map allowances sts)
all_read event [] = refl
all_read event (st ∷ sts) =
    statement_read event st (flat_map parts sts) ∙ ap (λ l. flat_map (role_for event) (allowances st) ++ l) (all_read event sts)
    ∙ sym (flat_of_two (role_for event) (allowances st) (flat_map allowances sts))

abbrev pub with_list : List Token → Lexed
with_list tokens = record { tokens = tokens; bad = None }

pub roles_are_said : (text event : List ℕ) (tokens : List Token) (statements : List Statement) (found : List (List ℕ)) → lexed text ≡ record { tokens = tokens; bad = None } →
    found ≡ roles_said event (symbols_of text tokens) → SaysPolicy text statements → found ≡ flat_map (role_for event) (flat_map allowances statements)
roles_are_said text event tokens statements found lex_is is says =
    let same : tokens ≡ says.tokens = ap (λ (l : Lexed). l.tokens) (sym lex_is ∙ says.cut.lexed) in
    is ∙ ap (λ ts. roles_said event (symbols_of text ts)) same ∙ ap (roles_said event) says.spelled ∙ all_read event statements
