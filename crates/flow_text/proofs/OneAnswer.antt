-- A text has one answer: what it comes to is one thing, and says which.
use Rattle.std.proofs.Common.{◌≡◌, ℕ, zero, suc, ◌<◌, ◌≤◌, List, [], ◌∷◌, length, take, slice_get, refl, sym, ap, subst, ◌∙◌, arith, ◌++◌, ◌⊎◌, inl, inr}
use Rattle.std.specs.Prelude.{Option, Some, None, Result, Ok, Err, slice_index}
use Rattle.flow_form.specs.declared.refusal.Wanted.{Wanted}
use Rattle.flow_form.specs.declared.refusal.TextRefusal.{TextRefusal}
use Rattle.flow_form.specs.declared.refusal.TextRefusal.TheVariants.{NotAscii, BadToken, Expected, Unknown, Repeated, TooDeep, NoMemory}
use Rattle.flow_form.specs.Script.{Said, Asked, Declared, holds, redundant}
use Rattle.flow_lex.specs.declared.token.Token.{Token}
use Rattle.flow_lex.specs.Tokens.{Lexed, lexed, IsAscii, IsFirstNotAscii}
use Rattle.flow_lex.proofs.AsciiLemmas.{ascii_has_none, one_first_byte}
use Rattle.flow_grammar.specs.Symbol.{Symbol, Placed}
use Rattle.flow_grammar.specs.Machine.{Reading, gives, expected, too_deep, read_script, read_query}
use Rattle.flow_grammar.specs.Roles.{script_roles, query_roles, Role, declares, in_goal, in_rule, declared_by, declaring, used_in_goals, used_in_rules}
use Rattle.flow_reader.specs.Symbols.{symbols_of}
use Rattle.flow_reader.specs.Reading.{place_of}
use Rattle.flow_text.specs.GoodNames.{IsUnknown, IsRepeated, IsFirstRepeated, IsFirstUnknown, AsksOfEvents, AsksFirstOfOther, IsFirst}
use Rattle.flow_text.specs.Saying.{HasTokens, Writes, Says, Asks}
use Rattle.flow_text.specs.Parser.{IsExpected, IsTooDeep, IsNameAt, IsFirstNameAt, named_places, IsTextRefusal, IsParseRefusal, IsQueryRefusal}
use Rattle.flow_grammar.proofs.Reading.{IsMachine, scripts_are_read, queries_are_read}
use Rattle.flow_text.specs.Laws.{IsAnswer, TextsHaveOneAnswer, QueriesHaveOneAnswer}
use Rattle.std.proofs.lemmas.Option.{same_Some}
use Rattle.std.proofs.lemmas.Grind.{flat_map-append}
use Rattle.flow_model.specs.Lists.{◌∈◌, Each, AreDistinct}
use Rattle.flow_model.proofs.Lists.{each_parts, distinct_parts}
use Rattle.flow_form.specs.Names.{declared_names, event_names, names_in_rule, HasGoodNames}
use Rattle.flow_grammar.proofs.RolesOfNames.{roles_are_the_names, of_rules}
use Rattle.flow_text.proofs.FirstNames.{IsWell, well_is_known}

-- There is one first role of a kind, and none where all are as they must be

-- one list cut in two ways
cuts : (a b c d : List Role) (x y : Role) → a ++ x ∷ b ≡ c ++ y ∷ d →
    (length a ≡ length c) ⊎ (((m : List Role) × (c ≡ a ++ x ∷ m)) ⊎ ((m : List Role) × (a ≡ c ++ y ∷ m)))
cuts [] b [] d x y e = inl refl
cuts [] b (z ∷ c) d x y e = let same : z ≡ x = cc in inr (inl (c, ap (λ q. q ∷ c) same))
cuts (z ∷ a) b [] d x y e = let same : z ≡ y = cc in inr (inr (a, ap (λ q. q ∷ a) same))
cuts (z ∷ a) b (w ∷ c) d x y e =
    let same : z ≡ w = cc in
    let rest : a ++ x ∷ b ≡ c ++ y ∷ d = cc in
    elim (cuts a b c d x y rest) [
      | inl l ↦ inl (ap suc l)
      | inr (inl (m, l)) ↦ inr (inl (m, (λ i. sym same i ∷ l i)))
      | inr (inr (m, l)) ↦ inr (inr (m, (λ i. same i ∷ l i)))
    ]

one_first : (P : List Role → Role → Type 0) (roles : List Role) (k j : ℕ) → IsFirst P roles k → IsFirst P roles j → k ≡ j
one_first P roles k j h g = elim (cuts h.front h.back g.front g.back h.role g.role (sym h.cut ∙ g.cut)) [
  | inl e ↦ sym h.place ∙ e ∙ g.place
  | inr (inl (m, e)) ↦ absurd (g.first h.front m h.role e h.here)
  | inr (inr (m, e)) ↦ absurd (h.first g.front m g.role e g.here)
]

-- Names that are declared once

not_again : (front back : List Role) (role : Role) → AreDistinct (declaring (front ++ role ∷ back)) → IsRepeated front role → ⊥
not_again front back (declares n) d here =
    (distinct_parts (declaring front) (n ∷ declaring back) (subst AreDistinct (flat_map-append declared_by front (declares n ∷ back)) d)).2 n here (inl refl)
not_again front back _ d here = here

once_is_not_repeated : (s : Said) (k : ℕ) → AreDistinct (declared_names s.decls) → IsFirstRepeated s k → ⊥
once_is_not_repeated s k once h =
    not_again h.front h.back h.role (subst AreDistinct (sym (roles_are_the_names s).0 ∙ ap declaring h.cut) once) h.here

-- Names that are declared as they must be

all_well : (decls : List Declared) (roles : List Role) → Each (λ n. n ∈ declared_names decls) (used_in_goals roles) →
    Each (λ n. n ∈ event_names decls) (used_in_rules roles) → Each (IsWell decls) roles
all_well decls [] g r = tt
all_well decls (in_goal n ∷ rs) (m, g) r = (m, all_well decls rs g r)
all_well decls (in_rule n ∷ rs) g (m, r) = (m, all_well decls rs g r)
all_well decls (_ ∷ rs) g r = (tt, all_well decls rs g r)

well_has_no_other : (decls : List Declared) (roles : List Role) (k : ℕ) → Each (IsWell decls) roles → IsFirst (λ front role. IsUnknown decls role) roles k → ⊥
well_has_no_other decls roles k well h =
    well_is_known decls h.role (each_parts (IsWell decls) h.front (h.role ∷ h.back) (subst (Each (IsWell decls)) h.cut well)).1.0 h.here

good_has_no_other : (s : Said) (k : ℕ) → HasGoodNames s → IsFirst (λ front role. IsUnknown s.decls role) (script_roles s) k → ⊥
good_has_no_other s k good h =
    let (d, g, r) = roles_are_the_names s in
    let in_goals = subst (Each (λ n. n ∈ declared_names s.decls)) (sym g) good.in_goals in
    let in_rules = subst (Each (λ n. n ∈ event_names s.decls)) (sym r) good.in_rules in
    well_has_no_other s.decls (script_roles s) k (all_well s.decls (script_roles s) in_goals in_rules) h

none_in_goals : (q : Asked) → used_in_goals (query_roles q) ≡ []
none_in_goals (holds r) = (of_rules (names_in_rule r)).1
none_in_goals (redundant n) = refl

events_have_no_other : (q : Asked) (s : Said) (k : ℕ) → AsksOfEvents q s → AsksFirstOfOther q s k → ⊥
events_have_no_other q s k events h =
    let in_goals = subst (Each (λ n. n ∈ declared_names s.decls)) (sym (none_in_goals q)) tt in
    well_has_no_other s.decls (query_roles q) k (all_well s.decls (query_roles q) in_goals events) h

-- What a text comes to

data Finding (V : Type 0) : Type 0 where
  no_ascii : ℕ → Finding V
  bad_token : ℕ → Finding V
  read_as : Reading V → Finding V

-- and its names
data Naming : Type 0 where
  good : Naming
  again other : ℕ → Naming

abbrev tokens_in : List ℕ → List Token
tokens_in text = (lexed text).tokens

abbrev Finds : {V : Type 0} → (List Symbol → Reading V) → List ℕ → Finding V → Type 0
Finds read text (no_ascii p) = IsFirstNotAscii text p
Finds read text (bad_token p) = IsAscii text × ((lexed text).bad ≡ Some p)
Finds read text (read_as r) = IsAscii text × ((lexed text).bad ≡ None) × (read (symbols_of text (tokens_in text)) ≡ r)

one_finding : {V : Type 0} (read : List Symbol → Reading V) (text : List ℕ) (f g : Finding V) → Finds read text f → Finds read text g → f ≡ g
one_finding read text (no_ascii p) (no_ascii q) h k = ap no_ascii (one_first_byte text p q h k)
one_finding read text (bad_token p) (bad_token q) (ascii, bad) (ascii', bad') = let same : p ≡ q = cc in ap bad_token same
one_finding read text (read_as r) (read_as s) (ascii, bad, e) (ascii', bad', e') = ap read_as (sym e ∙ e')
one_finding read text (no_ascii p) (bad_token q) h (ascii, bad) = absurd (ascii_has_none text p ascii h)
one_finding read text (no_ascii p) (read_as s) h (ascii, bad, e) = absurd (ascii_has_none text p ascii h)
one_finding read text (bad_token p) (no_ascii q) (ascii, bad) k = absurd (ascii_has_none text q ascii k)
one_finding read text (read_as r) (no_ascii q) (ascii, bad, e) k = absurd (ascii_has_none text q ascii k)
one_finding read text (bad_token p) (read_as s) (ascii, bad) (ascii', bad', e') = absurd (let differ : Some p ≡ None = sym bad ∙ bad' in cc)
one_finding read text (read_as r) (bad_token q) (ascii, bad, e) (ascii', bad') = absurd (let differ : Some q ≡ None = sym bad' ∙ bad in cc)

-- The answer that says it

abbrev refused_at : {V : Type 0} → (ℕ → List ℕ → TextRefusal) → Option (ℕ × List ℕ) → Result V TextRefusal
refused_at why None = Err NoMemory
refused_at why (Some (place, name)) = Err (why place name)

abbrev answer : {V : Type 0} → List ℕ → Finding V → Naming → Result V TextRefusal
answer text (no_ascii p) v = Err (NotAscii p)
answer text (bad_token p) v = Err (BadToken p)
answer text (read_as (expected kind k)) v = Err (Expected (place_of text (tokens_in text) k) kind)
answer text (read_as (too_deep k)) v = Err (TooDeep (place_of text (tokens_in text) k))
answer text (read_as (gives x)) good = Ok x
answer text (read_as (gives x)) (again k) = refused_at (λ place name. Repeated place name) (slice_get (named_places text (tokens_in text)) k)
answer text (read_as (gives x)) (other k) = refused_at (λ place name. Unknown place name) (slice_get (named_places text (tokens_in text)) k)

-- what is found of names, where there is a value
abbrev Judged : {V : Type 0} → (V → Naming → Type 0) → Finding V → Naming → Type 0
Judged judge (read_as (gives x)) v = judge x v
Judged judge _ v = v ≡ good

record Accounts {V : Type 0} (read : List Symbol → Reading V) (judge : V → Naming → Type 0) (text : List ℕ) (a : Result V TextRefusal) : Type 0 where
  finding : Finding V
  naming : Naming
  finds : Finds read text finding
  judged : Judged judge finding naming
  is : a ≡ answer text finding naming

module _ {V : Type 0} (judge : V → Naming → Type 0) (one_naming : (x : V) (v u : Naming) → judge x v → judge x u → v ≡ u) where
  one_judged : (f : Finding V) (v u : Naming) → Judged judge f v → Judged judge f u → v ≡ u
  one_judged (read_as (gives x)) v u h g = one_naming x v u h g
  one_judged _ v u h g = h ∙ sym g

  one_answer : (read : List Symbol → Reading V) (text : List ℕ) (a b : Result V TextRefusal) → Accounts read judge text a → Accounts read judge text b → a ≡ b
  one_answer read text a b h g =
      let same = one_finding read text h.finding g.finding h.finds g.finds in
      let names = one_judged g.finding h.naming g.naming (subst (λ f. Judged judge f h.naming) same h.judged) g.judged in
      h.is ∙ ap (λ f. answer text f h.naming) same ∙ ap (answer text g.finding) names ∙ sym g.is

-- What the contracts say comes to that

has_these : (text : List ℕ) (tokens : List Token) → HasTokens text tokens → tokens ≡ tokens_in text
has_these text tokens has = ap (λ (l : Lexed). l.tokens) (sym has.lexed)

has_none_bad : (text : List ℕ) (tokens : List Token) → HasTokens text tokens → (lexed text).bad ≡ None
has_none_bad text tokens has = ap (λ (l : Lexed). l.bad) has.lexed

module _ {V : Type 0} {Spells : List Placed → V → Type 0} {wants : List Symbol → Option Wanted} {read : List Symbol → Reading V} (m : IsMachine Spells wants read)
    (judge : V → Naming → Type 0) (text : List ℕ) where
  abbrev Known : Result V TextRefusal → Type 0
  Known a = Accounts read judge text a

  found : (tokens : List Token) (r : Reading V) → HasTokens text tokens → read (symbols_of text tokens) ≡ r → Finds read text (read_as r)
  found tokens r has e =
      (has.ascii, has_none_bad text tokens has, subst (λ ts. read (symbols_of text ts) ≡ r) (has_these text tokens has) e)

  written : (x : V) → Writes Spells text x → Finds read text (read_as (gives x))
  written x h = found h.tokens (gives x) h.has_tokens ((m.reads (symbols_of text h.tokens) x).1 h.derives)

  expected_there : (place : ℕ) (kind : Wanted) → IsExpected Spells wants text place kind → Known (Err (Expected place kind))
  expected_there place kind h =
      let (found_kind, e) = (m.is_stuck (symbols_of text h.tokens) h.number).1 (h.stuck, h.none_deep) in
      let same : found_kind ≡ kind = same_Some _ _ (sym (m.tells_what_is_wanted (symbols_of text h.tokens) found_kind h.number e) ∙ h.wanted) in
      record {
        finding = read_as (expected kind h.number);
        naming = good;
        finds = found h.tokens (expected kind h.number) h.has_tokens (e ∙ ap (λ k. expected k h.number) same);
        judged = refl;
        is = ap (λ p. Err (Expected p kind)) (h.there ∙ ap (λ ts. place_of text ts h.number) (has_these text h.tokens h.has_tokens));
      }

  deep_there : (place : ℕ) → IsTooDeep Spells text place → Known (Err (TooDeep place))
  deep_there place h = record {
    finding = read_as (too_deep h.number);
    naming = good;
    finds = found h.tokens (too_deep h.number) h.has_tokens ((m.is_too_deep (symbols_of text h.tokens) h.number).1 (h.deep, h.none_before));
    judged = refl;
    is = ap (λ p. Err (TooDeep p)) (h.there ∙ ap (λ ts. place_of text ts h.number) (has_these text h.tokens h.has_tokens));
  }

  said_there : (x : V) → Writes Spells text x → judge x good → Known (Ok x)
  said_there x h j = record { finding = read_as (gives x); naming = good; finds = written x h; judged = j; is = refl }

  named_there : (why : ℕ → List ℕ → TextRefusal) (roles : List Role) (k place : ℕ) (name : List ℕ) → IsNameAt text roles k place name →
      Err (why place name) ≡ refused_at {V = V} why (slice_get (named_places text (tokens_in text)) k)
  named_there why roles k place name h =
      ap (refused_at why) (sym (ap (λ ts. slice_get (named_places text ts) k) (sym (has_these text h.tokens h.has_tokens)) ∙ h.there))

  again_there : (roles : V → List Role) (place : ℕ) (name : List ℕ) → IsFirstNameAt Spells roles (λ x k. judge x (again k)) text place name → Known (Err (Repeated place name))
  again_there roles place name h = record {
    finding = read_as (gives h.value);
    naming = again h.number;
    finds = written h.value h.writes;
    judged = h.first;
    is = named_there (λ place name. Repeated place name) (roles h.value) h.number place name h.there;
  }

  other_there : (roles : V → List Role) (place : ℕ) (name : List ℕ) → IsFirstNameAt Spells roles (λ x k. judge x (other k)) text place name → Known (Err (Unknown place name))
  other_there roles place name h = record {
    finding = read_as (gives h.value);
    naming = other h.number;
    finds = written h.value h.writes;
    judged = h.first;
    is = named_there (λ place name. Unknown place name) (roles h.value) h.number place name h.there;
  }

  known : (Good : V → Type 0) (repeated unknown : ℕ → List ℕ → Type 0) → ((x : V) → Good x → Known (Ok x)) →
      ((place : ℕ) (name : List ℕ) → repeated place name → Known (Err (Repeated place name))) →
      ((place : ℕ) (name : List ℕ) → unknown place name → Known (Err (Unknown place name))) →
      (a : Result V TextRefusal) → IsAnswer Good (IsTextRefusal (record { spells = Spells; wants = wants; again = repeated; unknown = unknown }) text) a → Known a
  known Good repeated unknown says repeats knows_not (Ok x) h = says x h
  known Good repeated unknown says repeats knows_not (Err (NotAscii p)) (h, tells) = record { finding = no_ascii p; naming = good; finds = h; judged = refl; is = refl }
  known Good repeated unknown says repeats knows_not (Err (BadToken p)) (h, tells) = record { finding = bad_token p; naming = good; finds = h; judged = refl; is = refl }
  known Good repeated unknown says repeats knows_not (Err (Expected p kind)) (h, tells) = expected_there p kind h
  known Good repeated unknown says repeats knows_not (Err (TooDeep p)) (h, tells) = deep_there p h
  known Good repeated unknown says repeats knows_not (Err (Repeated p name)) (h, tells) = repeats p name h
  known Good repeated unknown says repeats knows_not (Err (Unknown p name)) (h, tells) = knows_not p name h
  known Good repeated unknown says repeats knows_not (Err NoMemory) (h, tells) = absurd (tells refl)

-- Scripts

abbrev judge_script : Said → Naming → Type 0
judge_script s good = HasGoodNames s
judge_script s (again k) = IsFirstRepeated s k
judge_script s (other k) = IsFirstUnknown s k

one_script_naming : (s : Said) (v u : Naming) → judge_script s v → judge_script s u → v ≡ u
one_script_naming s good good h g = refl
one_script_naming s (again k) (again j) h g = ap again (one_first IsRepeated (script_roles s) k j h g)
one_script_naming s (other k) (other j) h g = ap other (one_first (λ front role. IsUnknown s.decls role) (script_roles s) k j h.first g.first)
one_script_naming s v u h g = absurd (search (once_is_not_repeated, good_has_no_other))

script_known : (text : List ℕ) (a : Result Said TextRefusal) → IsAnswer (Says text) (IsParseRefusal text) a → Accounts read_script judge_script text a
script_known text =
    known scripts_are_read judge_script text (Says text) _ _
    (λ s h. said_there scripts_are_read judge_script text s h.writes h.named)
    (again_there scripts_are_read judge_script text script_roles)
    (other_there scripts_are_read judge_script text script_roles)

pub texts_have_one_answer : TextsHaveOneAnswer
texts_have_one_answer text a b one two =
    one_answer judge_script one_script_naming read_script text a b (script_known text a one) (script_known text b two)

-- Queries

abbrev judge_query : Said → Asked → Naming → Type 0
judge_query s q good = AsksOfEvents q s
judge_query s q (again k) = ⊥
judge_query s q (other k) = AsksFirstOfOther q s k

one_query_naming : (s : Said) (q : Asked) (v u : Naming) → judge_query s q v → judge_query s q u → v ≡ u
one_query_naming s q good good h g = refl
one_query_naming s q (other k) (other j) h g = ap other (one_first (λ front role. IsUnknown s.decls role) (query_roles q) k j h g)
one_query_naming s q v u h g = absurd (search events_have_no_other)

query_known : (text : List ℕ) (s : Said) (a : Result Asked TextRefusal) → IsAnswer (Asks text s) (IsQueryRefusal text s) a →
    Accounts read_query (judge_query s) text a
query_known text s =
    known queries_are_read (judge_query s) text (Asks text s) _ _
    (λ q h. said_there queries_are_read (judge_query s) text q h.writes h.of_events) (λ place name h. absurd h)
    (other_there queries_are_read (judge_query s) text query_roles)

pub queries_have_one_answer : QueriesHaveOneAnswer
queries_have_one_answer text s a b one two =
    one_answer (judge_query s) (one_query_naming s) read_query text a b (query_known text s a one) (query_known text s b two)
