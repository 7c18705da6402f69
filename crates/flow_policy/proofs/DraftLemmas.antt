-- What the names of statements assign, by numbers.
use Rattle.std.proofs.Common.{◌≡◌, ℕ, zero, suc, ◌+◌, ◌<◌, List, [], ◌∷◌, ◌++◌, length, take, drop, get_or, map, fold, arith, refl, sym, ap, ◌∙◌, subst, append_assoc, append-nil}
use Rattle.std.specs.List.{flat_map}
use Rattle.std.specs.Prelude.{Option, Some, None}
use Rattle.flow_model.specs.Lists.{Each}
use Rattle.flow_lex.specs.declared.token.Token.{Token}
use Rattle.flow_grammar.specs.Symbol.{Symbol, a_name}
use Rattle.flow_reader.specs.Symbols.{symbol_of, symbols_of}
use Rattle.flow_workflow.specs.Numbers.{event_number}
use Rattle.flow_policy.specs.declared.stage.Stage.{Stage}
use Rattle.flow_policy.specs.declared.stage.Stage.TheVariants.{StatementNeeded, RoleNeeded, UserNeeded, AllowedNeeded, EventNeeded, SeparateFirst, SeparateSecond, BindFirst, BindSecond}
use Rattle.flow_policy.specs.Statement.{Statement, gives, allows, separates, binds}
use Rattle.flow_policy.specs.Policy.{memberships, allowances, given_role, separations, bindings, numbered_member, numbered_allowance, numbered_pair, turned}
use Rattle.flow_policy.specs.Stages.{Mentioned, next, behind, mention_of, mentions_from}
use Rattle.flow_policy.specs.declared.refusal.PolicyRefusal.{PolicyRefusal}
use Rattle.flow_policy.specs.declared.refusal.PolicyRefusal.TheVariants.{Unknown, NoMemory}
use Rattle.flow_policy.specs.Numbering.{user_at, role_at, Names, Numbered, with_mention, IsListed, IsNotListed, IsNumberRefusal}
use Rattle.flow_policy.proofs.StageLemmas.{Step, trace, user_steps, event_steps, steps}
use Rattle.flow_policy.proofs.FirstLemmas.{fold-append}
use Rattle.std.proofs.lemmas.Grind.{flat_map-append}
use Rattle.std.proofs.lemmas.List.{map-append}
use Rattle.flow_policy.proofs.RowLemmas.{around}

-- a name without its place
abbrev pub bare : Mentioned → Mentioned
bare m = record { stage = m.stage; place = 0; name = m.name }

abbrev pub bares : Step → List Mentioned
bares d = mention_of d.stage 0 d.read

bare_one : (s : Stage) (p : ℕ) (t : Symbol) (rest more : List Mentioned) → map bare rest ≡ more → map bare (mention_of s p t ++ rest) ≡ mention_of s 0 t ++ more
bare_one s p (a_name n) rest more e = ap (λ l. record { stage = s; place = 0; name = n } ∷ l) e
bare_one s p _ rest more e = e

bare_behind : (text : List ℕ) (ts : List Token) (o : Option Stage) → ((q : Stage) → map bare (mentions_from text q ts) ≡ flat_map bares (trace q (symbols_of text ts))) →
    map bare (behind [] o (λ q. mentions_from text q ts)) ≡ flat_map bares (behind [] o (λ q. trace q (symbols_of text ts)))
bare_behind text ts None h = refl
bare_behind text ts (Some q) h = h q

pub bare_mentions : (text : List ℕ) (s : Stage) (ts : List Token) → map bare (mentions_from text s ts) ≡ flat_map bares (trace s (symbols_of text ts))
bare_mentions text s [] = refl
bare_mentions text s (t ∷ ts) =
    bare_one s t.start (symbol_of text t) _ _ (bare_behind text ts (next s (symbol_of text t)) (λ q. bare_mentions text q ts))

-- the place of a name counts for nothing here

user_bare : (s : Stage) (p : ℕ) (n : List ℕ) → user_at (record { stage = s; place = p; name = n }) ≡ user_at (record { stage = s; place = 0; name = n })
user_bare UserNeeded p n = refl
user_bare _ p n = refl

role_bare : (s : Stage) (p : ℕ) (n : List ℕ) → role_at (record { stage = s; place = p; name = n }) ≡ role_at (record { stage = s; place = 0; name = n })
role_bare RoleNeeded p n = refl
role_bare _ p n = refl

mention_bare : (names : Names) (d : Numbered) (s : Stage) (p : ℕ) (n : List ℕ) →
    with_mention names d (record { stage = s; place = p; name = n }) ≡ with_mention names d (record { stage = s; place = 0; name = n })
mention_bare names d RoleNeeded p n = refl
mention_bare names d UserNeeded p n = refl
mention_bare names d AllowedNeeded p n = refl
mention_bare names d EventNeeded p n = refl
mention_bare names d SeparateFirst p n = refl
mention_bare names d SeparateSecond p n = refl
mention_bare names d BindFirst p n = refl
mention_bare names d BindSecond p n = refl
mention_bare names d _ p n = refl

users_bare : (ms : List Mentioned) → flat_map user_at ms ≡ flat_map user_at (map bare ms)
users_bare [] = refl
users_bare (m ∷ ms) = (λ i. user_bare m.stage m.place m.name i ++ users_bare ms i)

roles_bare : (ms : List Mentioned) → flat_map role_at ms ≡ flat_map role_at (map bare ms)
roles_bare [] = refl
roles_bare (m ∷ ms) = (λ i. role_bare m.stage m.place m.name i ++ roles_bare ms i)

fold_bare : (names : Names) (d : Numbered) (ms : List Mentioned) → fold (with_mention names) d ms ≡ fold (with_mention names) d (map bare ms)
fold_bare names d [] = refl
fold_bare names d (m ∷ ms) =
    ap (λ b. fold (with_mention names) b ms) (mention_bare names d m.stage m.place m.name) ∙ fold_bare names (with_mention names d (bare m)) ms

-- the names of statements
abbrev pub said_names : List Statement → List Mentioned
said_names sts = flat_map bares (flat_map steps sts)

names_cut : (st : Statement) (sts : List Statement) → said_names (st ∷ sts) ≡ flat_map bares (steps st) ++ said_names sts
names_cut st sts = flat_map-append bares (steps st) (flat_map steps sts)

map-map : {A B C : Type 0} (f : B → C) (g : A → B) (xs : List A) → map f (map g xs) ≡ map (λ x. f (g x)) xs
map-map f g [] = refl
map-map f g (x ∷ xs) = ap (λ l. f (g x) ∷ l) (map-map f g xs)

-- users and roles

users_line : (u : List ℕ) (us : List (List ℕ)) → flat_map user_at (flat_map bares (user_steps u us)) ≡ u ∷ us
users_line u [] = refl
users_line u (v ∷ us) = ap (λ l. u ∷ l) (users_line v us)

no_users : (e : List ℕ) (es : List (List ℕ)) → flat_map user_at (flat_map bares (event_steps e es)) ≡ []
no_users e [] = refl
no_users e (f ∷ es) = no_users f es

no_roles_of_users : (u : List ℕ) (us : List (List ℕ)) → flat_map role_at (flat_map bares (user_steps u us)) ≡ []
no_roles_of_users u [] = refl
no_roles_of_users u (v ∷ us) = no_roles_of_users v us

no_roles : (e : List ℕ) (es : List (List ℕ)) → flat_map role_at (flat_map bares (event_steps e es)) ≡ []
no_roles e [] = refl
no_roles e (f ∷ es) = no_roles f es

first_of_pairs : (r : List ℕ) (us : List (List ℕ)) → map (λ (m : List ℕ × List ℕ). m.0) (map (λ u. (u, r)) us) ≡ us
first_of_pairs r [] = refl
first_of_pairs r (u ∷ us) = ap (λ l. u ∷ l) (first_of_pairs r us)

users_of_one : (st : Statement) → flat_map user_at (flat_map bares (steps st)) ≡ map (λ m. m.0) (memberships st)
users_of_one (gives r u us) = users_line u us ∙ sym (first_of_pairs r (u ∷ us))
users_of_one (allows r e es) = no_users e es
users_of_one (separates e f) = refl
users_of_one (binds e f) = refl

roles_of_one : (st : Statement) → flat_map role_at (flat_map bares (steps st)) ≡ given_role st
roles_of_one (gives r u us) = ap (λ l. r ∷ l) (no_roles_of_users u us)
roles_of_one (allows r e es) = no_roles e es
roles_of_one (separates e f) = refl
roles_of_one (binds e f) = refl

pub users_said : (sts : List Statement) → flat_map user_at (said_names sts) ≡ map (λ m. m.0) (flat_map memberships sts)
users_said [] = refl
users_said (st ∷ sts) =
    ap (flat_map user_at) (names_cut st sts) ∙ flat_map-append user_at (flat_map bares (steps st)) (said_names sts)
    ∙ (λ i. users_of_one st i ++ users_said sts i) ∙ sym (map-append (λ m. m.0) (memberships st) (flat_map memberships sts))

pub roles_said : (sts : List Statement) → flat_map role_at (said_names sts) ≡ flat_map given_role sts
roles_said [] = refl
roles_said (st ∷ sts) =
    ap (flat_map role_at) (names_cut st sts) ∙ flat_map-append role_at (flat_map bares (steps st)) (said_names sts)
    ∙ (λ i. roles_of_one st i ++ roles_said sts i)

-- pairs by numbers

users_numbered : (names : Names) (d : Numbered) (u : List ℕ) (us : List (List ℕ)) →
    fold (with_mention names) d (flat_map bares (user_steps u us)) ≡ record d { members = d.members ++ map (λ v. (event_number names.users v + 1, d.role)) (u ∷ us) }
users_numbered names d u [] = refl
users_numbered names d u (v ∷ us) =
    users_numbered names (record d { members = d.members ++ (event_number names.users u + 1, d.role) ∷ [] }) v us
    ∙ ap (λ l. record d { members = l }) (append_assoc d.members ((event_number names.users u + 1, d.role) ∷ []) (map (λ w. (event_number names.users w + 1, d.role)) (v ∷ us)))

events_numbered : (names : Names) (d : Numbered) (e : List ℕ) (es : List (List ℕ)) →
    fold (with_mention names) d (flat_map bares (event_steps e es)) ≡ record d { allowed = d.allowed ++ map (λ f. (event_number names.events f, d.role)) (e ∷ es) }
events_numbered names d e [] = refl
events_numbered names d e (f ∷ es) =
    events_numbered names (record d { allowed = d.allowed ++ (event_number names.events e, d.role) ∷ [] }) f es
    ∙ ap (λ l. record d { allowed = l }) (append_assoc d.allowed ((event_number names.events e, d.role) ∷ []) (map (λ g. (event_number names.events g, d.role)) (f ∷ es)))

-- what statements add to the pairs
pub record Adds (names : Names) (d new : Numbered) (ms gs ss bs : List (List ℕ × List ℕ)) : Type 0 where
  pub members : new.members ≡ d.members ++ map (numbered_member names.users names.roles) ms
  pub allowed : new.allowed ≡ d.allowed ++ map turned (map (numbered_allowance names.roles names.events) gs)
  pub separate : new.separate ≡ d.separate ++ map (numbered_pair names.events) ss
  pub bound : new.bound ≡ d.bound ++ map (numbered_pair names.events) bs

one_adds : (names : Names) (d : Numbered) (st : Statement) →
    Adds names d (fold (with_mention names) d (flat_map bares (steps st))) (memberships st) (allowances st) (separations st) (bindings st)
one_adds names d (gives r u us) =
    let e = users_numbered names (record d { role = event_number names.roles r }) u us in
    record {
      members = ap (λ (x : Numbered). x.members) e ∙ ap (λ l. d.members ++ l) (sym (map-map (numbered_member names.users names.roles) (λ v. (v, r)) (u ∷ us)));
      allowed = ap (λ (x : Numbered). x.allowed) e ∙ sym (append-nil d.allowed);
      separate = ap (λ (x : Numbered). x.separate) e ∙ sym (append-nil d.separate);
      bound = ap (λ (x : Numbered). x.bound) e ∙ sym (append-nil d.bound);
    }
one_adds names d (allows r v es) =
    let e = events_numbered names (record d { role = event_number names.roles r }) v es in
    record {
      members = ap (λ (x : Numbered). x.members) e ∙ sym (append-nil d.members);
      allowed = ap (λ (x : Numbered). x.allowed) e
          ∙ ap (λ l. d.allowed ++ l) (sym (map-map (λ p. turned (numbered_allowance names.roles names.events p)) (λ f. (r, f)) (v ∷ es))
          ∙ sym (map-map turned (numbered_allowance names.roles names.events) (map (λ f. (r, f)) (v ∷ es))));
      separate = ap (λ (x : Numbered). x.separate) e ∙ sym (append-nil d.separate);
      bound = ap (λ (x : Numbered). x.bound) e ∙ sym (append-nil d.bound);
    }
one_adds names d (separates e f) =
    record { members = sym (append-nil d.members); allowed = sym (append-nil d.allowed); separate = refl; bound = sym (append-nil d.bound) }
one_adds names d (binds e f) =
    record { members = sym (append-nil d.members); allowed = sym (append-nil d.allowed); separate = sym (append-nil d.separate); bound = refl }

further : {A B : Type 0} (f : A → B) (x y z : List B) (a b : List A) → y ≡ x ++ map f a → z ≡ y ++ map f b → z ≡ x ++ map f (a ++ b)
further f x y z a b first second =
    second ∙ ap (λ l. l ++ map f b) first ∙ append_assoc x (map f a) (map f b) ∙ ap (λ l. x ++ l) (sym (map-append f a b))

turned_twice : (names : Names) (l : List (List ℕ × List ℕ)) → map turned (map (numbered_allowance names.roles names.events) l) ≡ map (λ p. turned (numbered_allowance names.roles names.events p)) l
turned_twice names l = map-map turned (numbered_allowance names.roles names.events) l

pub all_add : (names : Names) (d : Numbered) (sts : List Statement) →
    Adds names d (fold (with_mention names) d (said_names sts)) (flat_map memberships sts) (flat_map allowances sts) (flat_map separations sts) (flat_map bindings sts)
all_add names d [] = record { members = sym (append-nil d.members); allowed = sym (append-nil d.allowed); separate = sym (append-nil d.separate); bound = sym (append-nil d.bound) }
all_add names d (st ∷ sts) =
    let one = one_adds names d st in
    let middle = fold (with_mention names) d (flat_map bares (steps st)) in
    let rest = all_add names middle sts in
    let cut = ap (fold (with_mention names) d) (names_cut st sts) ∙ fold-append (with_mention names) d (flat_map bares (steps st)) (said_names sts) in
    let f = λ (p : List ℕ × List ℕ). turned (numbered_allowance names.roles names.events p) in
    record {
      members = ap (λ (x : Numbered). x.members) cut ∙ further (numbered_member names.users names.roles) d.members middle.members _ (memberships st) (flat_map memberships sts) one.members rest.members;
      allowed = ap (λ (x : Numbered). x.allowed) cut ∙ further f d.allowed middle.allowed _ (allowances st) (flat_map allowances sts)
          (one.allowed ∙ ap (λ l. d.allowed ++ l) (turned_twice names (allowances st))) (rest.allowed ∙ ap (λ l. middle.allowed ++ l) (turned_twice names (flat_map allowances sts)))
          ∙ ap (λ l. d.allowed ++ l) (sym (turned_twice names (allowances st ++ flat_map allowances sts)));
      separate = ap (λ (x : Numbered). x.separate) cut ∙ further (numbered_pair names.events) d.separate middle.separate _ (separations st) (flat_map separations sts) one.separate rest.separate;
      bound = ap (λ (x : Numbered). x.bound) cut ∙ further (numbered_pair names.events) d.bound middle.bound _ (bindings st) (flat_map bindings sts) one.bound rest.bound;
    }

-- the names of a text that is whole statements are theirs
pub names_are : (text : List ℕ) (ts : List Token) (sts : List Statement) → trace StatementNeeded (symbols_of text ts) ≡ flat_map steps sts →
    map bare (mentions_from text StatementNeeded ts) ≡ said_names sts
names_are text ts sts e = bare_mentions text StatementNeeded ts ∙ ap (flat_map bares) e

pub users_are : (ms : List Mentioned) (sts : List Statement) → map bare ms ≡ said_names sts → flat_map user_at ms ≡ map (λ m. m.0) (flat_map memberships sts)
users_are ms sts e = users_bare ms ∙ ap (flat_map user_at) e ∙ users_said sts

pub roles_are : (ms : List Mentioned) (sts : List Statement) → map bare ms ≡ said_names sts → flat_map role_at ms ≡ flat_map given_role sts
roles_are ms sts e = roles_bare ms ∙ ap (flat_map role_at) e ∙ roles_said sts

pub pairs_are : (names : Names) (d : Numbered) (ms : List Mentioned) (sts : List Statement) → map bare ms ≡ said_names sts →
    Adds names d (fold (with_mention names) d ms) (flat_map memberships sts) (flat_map allowances sts) (flat_map separations sts) (flat_map bindings sts)
pairs_are names d ms sts e =
    subst (λ x. Adds names d x (flat_map memberships sts) (flat_map allowances sts) (flat_map separations sts) (flat_map bindings sts))
    (sym (fold_bare names d ms ∙ ap (fold (with_mention names) d) e)) (all_add names d sts)

-- the name at which the numbering stops is the first that is not listed
pub stops_at : {A : Type 0} (f : A → Mentioned) (names : Names) (xs : List A) (k : ℕ) (d : A) → k < length xs → Each (IsListed names) (map f (take k xs)) → (refusal : PolicyRefusal) →
    IsNotListed names (f (get_or xs k d)) refusal → IsNumberRefusal names (map f xs) refusal
stops_at f names xs k d lt listed (Unknown place) (there, bad) = record {
  front = map f (take k xs);
  here = f (get_or xs k d);
  back = map f (drop (k + 1) xs);
  cut = ap (map f) (around xs k d lt) ∙ map-append f (take k xs) (get_or xs k d ∷ drop (k + 1) xs);
  there = there;
  unlisted = bad;
  first = listed;
}
stops_at f names xs k d lt listed NoMemory h = tt
stops_at f names xs k d lt listed _ h = absurd h
