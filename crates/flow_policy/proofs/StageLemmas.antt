-- The stages of the reading are those of the statements, and every stage can be ended.
use Rattle.std.proofs.Common.{◌≡◌, ◌≢◌, ℕ, Bool, true, false, List, [], ◌∷◌, ◌++◌, map, refl, sym, ap, ◌∙◌, subst, inl, inr, ◌⊎◌}
use Rattle.std.specs.Prelude.{Option, Some, None, codes, if◌then◌else◌}
use Rattle.std.specs.List.{flat_map}
use Rattle.flow_grammar.specs.Symbol.{Symbol, a_name, equals, comma, semicolon}
use Rattle.flow_reader.specs.Symbols.{is}
use Rattle.flow_facts.specs.Same.{names_same}
use Rattle.flow_policy.specs.declared.stage.Stage.{Stage}
use Rattle.flow_policy.specs.declared.stage.Stage.TheVariants.{StatementNeeded, RoleNeeded, EqualsNeeded, UserNeeded, AfterUser, AllowedNeeded, EventNeeded, AfterEvent, SeparateFirst, SeparateSecond, BindFirst, BindSecond, PairRead}
use Rattle.flow_policy.specs.Statement.{Statement, gives, allows, separates, binds, Part, fixed, free, a_role, an_event, symbol, listed, parts}
use Rattle.flow_policy.specs.Texts.{SpellsPolicy, IsViable}
use Rattle.flow_policy.specs.Stages.{after_word, after_name, after_equals, after_comma, after_semicolon, next, behind, reached}
use Rattle.std.proofs.lemmas.List.{map-append}

-- a symbol with the stage at which it stands
pub record Step : Type 0 where
  pub stage : Stage
  pub read : Symbol

abbrev pub step : Stage → Symbol → Step
step s t = record { stage = s; read = t }

-- the steps of a reading, up to where no policy goes on
abbrev pub trace : Stage → List Symbol → List Step
trace s [] = []
trace s (t ∷ ts) = step s t ∷ behind [] (next s t) (λ q. trace q ts)

-- and those of a statement

abbrev pub user_steps : List ℕ → List (List ℕ) → List Step
user_steps u [] = step UserNeeded (a_name u) ∷ step AfterUser semicolon ∷ []
user_steps u (v ∷ us) = step UserNeeded (a_name u) ∷ step AfterUser comma ∷ user_steps v us

abbrev pub event_steps : List ℕ → List (List ℕ) → List Step
event_steps e [] = step EventNeeded (a_name e) ∷ step AfterEvent semicolon ∷ []
event_steps e (f ∷ es) = step EventNeeded (a_name e) ∷ step AfterEvent comma ∷ event_steps f es

abbrev pub steps : Statement → List Step
steps (gives r u us) = step StatementNeeded (a_name (codes "role")) ∷ step RoleNeeded (a_name r) ∷ step EqualsNeeded equals ∷ user_steps u us
steps (allows r e es) = step StatementNeeded (a_name (codes "allow")) ∷ step AllowedNeeded (a_name r) ∷ event_steps e es
steps (separates e f) =
    step StatementNeeded (a_name (codes "separate")) ∷ step SeparateFirst (a_name e) ∷ step SeparateSecond (a_name f) ∷ step PairRead semicolon ∷ []
steps (binds e f) =
    step StatementNeeded (a_name (codes "bind")) ∷ step BindFirst (a_name e) ∷ step BindSecond (a_name f) ∷ step PairRead semicolon ∷ []

-- What is written is read

users_read : (u : List ℕ) (us : List (List ℕ)) (ps : List Part) →
    (trace UserNeeded (map symbol (listed free u us ++ ps)) ≡ user_steps u us ++ trace StatementNeeded (map symbol ps))
    × (reached UserNeeded (map symbol (listed free u us ++ ps)) ≡ reached StatementNeeded (map symbol ps))
users_read u [] ps = (refl, refl)
users_read u (v ∷ us) ps =
    let rest = users_read v us ps in
    (ap (λ l. step UserNeeded (a_name u) ∷ step AfterUser comma ∷ l) rest.0, rest.1)

events_read : (e : List ℕ) (es : List (List ℕ)) (ps : List Part) →
    (trace EventNeeded (map symbol (listed an_event e es ++ ps)) ≡ event_steps e es ++ trace StatementNeeded (map symbol ps))
    × (reached EventNeeded (map symbol (listed an_event e es ++ ps)) ≡ reached StatementNeeded (map symbol ps))
events_read e [] ps = (refl, refl)
events_read e (f ∷ es) ps =
    let rest = events_read f es ps in
    (ap (λ l. step EventNeeded (a_name e) ∷ step AfterEvent comma ∷ l) rest.0, rest.1)

statement_read : (st : Statement) (ps : List Part) →
    (trace StatementNeeded (map symbol (parts st ++ ps)) ≡ steps st ++ trace StatementNeeded (map symbol ps))
    × (reached StatementNeeded (map symbol (parts st ++ ps)) ≡ reached StatementNeeded (map symbol ps))
statement_read (gives r u us) ps =
    let rest = users_read u us ps in
    (ap (λ l. step StatementNeeded (a_name (codes "role")) ∷ step RoleNeeded (a_name r) ∷ step EqualsNeeded equals ∷ l) rest.0, rest.1)
statement_read (allows r e es) ps =
    let rest = events_read e es ps in
    (ap (λ l. step StatementNeeded (a_name (codes "allow")) ∷ step AllowedNeeded (a_name r) ∷ l) rest.0, rest.1)
statement_read (separates e f) ps = (refl, refl)
statement_read (binds e f) ps = (refl, refl)

pub statements_read : (sts : List Statement) →
    (trace StatementNeeded (map symbol (flat_map parts sts)) ≡ flat_map steps sts)
    × (reached StatementNeeded (map symbol (flat_map parts sts)) ≡ Some StatementNeeded)
statements_read [] = (refl, refl)
statements_read (st ∷ sts) =
    let here = statement_read st (flat_map parts sts) in
    let rest = statements_read sts in
    (here.0 ∙ ap (λ l. steps st ++ l) rest.0, here.1 ∙ rest.1)

-- What is read was written

-- the steps that lead from the stage to the end of its statement, and then statements
abbrev Ends : Stage → List Step → Type 0
Ends StatementNeeded w = (sts : List Statement) × (w ≡ flat_map steps sts)
Ends RoleNeeded w = (r u : List ℕ) × (us : List (List ℕ)) × (sts : List Statement) × (w ≡ step RoleNeeded (a_name r) ∷ step EqualsNeeded equals ∷ user_steps u us ++ flat_map steps sts)
Ends EqualsNeeded w = (u : List ℕ) × (us : List (List ℕ)) × (sts : List Statement) × (w ≡ step EqualsNeeded equals ∷ user_steps u us ++ flat_map steps sts)
Ends UserNeeded w = (u : List ℕ) × (us : List (List ℕ)) × (sts : List Statement) × (w ≡ user_steps u us ++ flat_map steps sts)
Ends AfterUser w = ((sts : List Statement) × (w ≡ step AfterUser semicolon ∷ flat_map steps sts))
    ⊎ ((u : List ℕ) × (us : List (List ℕ)) × (sts : List Statement) × (w ≡ step AfterUser comma ∷ user_steps u us ++ flat_map steps sts))
Ends AllowedNeeded w = (r e : List ℕ) × (es : List (List ℕ)) × (sts : List Statement) × (w ≡ step AllowedNeeded (a_name r) ∷ event_steps e es ++ flat_map steps sts)
Ends EventNeeded w = (e : List ℕ) × (es : List (List ℕ)) × (sts : List Statement) × (w ≡ event_steps e es ++ flat_map steps sts)
Ends AfterEvent w = ((sts : List Statement) × (w ≡ step AfterEvent semicolon ∷ flat_map steps sts))
    ⊎ ((e : List ℕ) × (es : List (List ℕ)) × (sts : List Statement) × (w ≡ step AfterEvent comma ∷ event_steps e es ++ flat_map steps sts))
Ends SeparateFirst w = (e f : List ℕ) × (sts : List Statement) × (w ≡ step SeparateFirst (a_name e) ∷ step SeparateSecond (a_name f) ∷ step PairRead semicolon ∷ flat_map steps sts)
Ends SeparateSecond w = (f : List ℕ) × (sts : List Statement) × (w ≡ step SeparateSecond (a_name f) ∷ step PairRead semicolon ∷ flat_map steps sts)
Ends BindFirst w = (e f : List ℕ) × (sts : List Statement) × (w ≡ step BindFirst (a_name e) ∷ step BindSecond (a_name f) ∷ step PairRead semicolon ∷ flat_map steps sts)
Ends BindSecond w = (f : List ℕ) × (sts : List Statement) × (w ≡ step BindSecond (a_name f) ∷ step PairRead semicolon ∷ flat_map steps sts)
Ends PairRead w = (sts : List Statement) × (w ≡ step PairRead semicolon ∷ flat_map steps sts)

-- what ends from the next stage on, ends from this one
abbrev EndsBehind : Option Stage → List Symbol → Type 0
EndsBehind None ts = ⊥
EndsBehind (Some q) ts = Ends q (trace q ts)

-- the word with which a statement begins, and what follows it
abbrev WordEnds : List ℕ → List Symbol → Option Stage → Type 0
WordEnds n ts o = EndsBehind o ts → (sts : List Statement) × (step StatementNeeded (a_name n) ∷ behind [] o (λ q. trace q ts) ≡ flat_map steps sts)

role_back : (n : List ℕ) (ts : List Symbol) → n ≡ codes "role" → WordEnds n ts (Some RoleNeeded)
role_back n ts same (r, u, us, sts, e) = (gives r u us ∷ sts, (λ i. step StatementNeeded (a_name (same i)) ∷ e i))

allow_back : (n : List ℕ) (ts : List Symbol) → n ≡ codes "allow" → WordEnds n ts (Some AllowedNeeded)
allow_back n ts same (r, v, es, sts, e) = (allows r v es ∷ sts, (λ i. step StatementNeeded (a_name (same i)) ∷ e i))

separate_back : (n : List ℕ) (ts : List Symbol) → n ≡ codes "separate" → WordEnds n ts (Some SeparateFirst)
separate_back n ts same (v, f, sts, e) = (separates v f ∷ sts, (λ i. step StatementNeeded (a_name (same i)) ∷ e i))

bind_back : (n : List ℕ) (ts : List Symbol) → n ≡ codes "bind" → WordEnds n ts (Some BindFirst)
bind_back n ts same (v, f, sts, e) = (binds v f ∷ sts, (λ i. step StatementNeeded (a_name (same i)) ∷ e i))

-- one of two ways, by a test of the word
either_back : (n w : List ℕ) (ts : List Symbol) (o p : Option Stage) → (n ≡ w → WordEnds n ts o) → WordEnds n ts p → WordEnds n ts (if is n w then o else p)
either_back n w ts o p there otherwise = by (is n w) refl
  where
    by : (b : Bool) → is n w ≡ b → WordEnds n ts (if b then o else p)
    by true e = there (names_same n w e)
    by false e = otherwise

no_word : (n : List ℕ) (ts : List Symbol) → WordEnds n ts None
no_word n ts h = absurd h

word_back : (n : List ℕ) (ts : List Symbol) → WordEnds n ts (after_word n)
word_back n ts =
    either_back n (codes "role") ts (Some RoleNeeded) _ (role_back n ts)
    (either_back n (codes "allow") ts (Some AllowedNeeded) _ (allow_back n ts)
    (either_back n (codes "separate") ts (Some SeparateFirst) _ (separate_back n ts)
    (either_back n (codes "bind") ts (Some BindFirst) None (bind_back n ts) (no_word n ts))))

name_back : (s : Stage) (n : List ℕ) (ts : List Symbol) → EndsBehind (after_name s n) ts → Ends s (step s (a_name n) ∷ behind [] (after_name s n) (λ q. trace q ts))
name_back StatementNeeded n ts h = word_back n ts h
name_back RoleNeeded n ts (u, us, sts, e) = (n, u, us, sts, ap (λ l. step RoleNeeded (a_name n) ∷ l) e)
name_back UserNeeded n ts (inl (sts, e)) = (n, [], sts, ap (λ l. step UserNeeded (a_name n) ∷ l) e)
name_back UserNeeded n ts (inr (u, us, sts, e)) = (n, u ∷ us, sts, ap (λ l. step UserNeeded (a_name n) ∷ l) e)
name_back AllowedNeeded n ts (f, es, sts, e) = (n, f, es, sts, ap (λ l. step AllowedNeeded (a_name n) ∷ l) e)
name_back EventNeeded n ts (inl (sts, e)) = (n, [], sts, ap (λ l. step EventNeeded (a_name n) ∷ l) e)
name_back EventNeeded n ts (inr (f, es, sts, e)) = (n, f ∷ es, sts, ap (λ l. step EventNeeded (a_name n) ∷ l) e)
name_back SeparateFirst n ts (f, sts, e) = (n, f, sts, ap (λ l. step SeparateFirst (a_name n) ∷ l) e)
name_back SeparateSecond n ts (sts, e) = (n, sts, ap (λ l. step SeparateSecond (a_name n) ∷ l) e)
name_back BindFirst n ts (f, sts, e) = (n, f, sts, ap (λ l. step BindFirst (a_name n) ∷ l) e)
name_back BindSecond n ts (sts, e) = (n, sts, ap (λ l. step BindSecond (a_name n) ∷ l) e)
name_back EqualsNeeded n ts h = absurd h
name_back AfterUser n ts h = absurd h
name_back AfterEvent n ts h = absurd h
name_back PairRead n ts h = absurd h

equals_back : (s : Stage) (ts : List Symbol) → EndsBehind (after_equals s) ts → Ends s (step s equals ∷ behind [] (after_equals s) (λ q. trace q ts))
equals_back EqualsNeeded ts (u, us, sts, e) = (u, us, sts, ap (λ l. step EqualsNeeded equals ∷ l) e)
equals_back _ ts h = absurd h

comma_back : (s : Stage) (ts : List Symbol) → EndsBehind (after_comma s) ts → Ends s (step s comma ∷ behind [] (after_comma s) (λ q. trace q ts))
comma_back AfterUser ts (u, us, sts, e) = inr (u, us, sts, ap (λ l. step AfterUser comma ∷ l) e)
comma_back AfterEvent ts (f, es, sts, e) = inr (f, es, sts, ap (λ l. step AfterEvent comma ∷ l) e)
comma_back _ ts h = absurd h

semicolon_back : (s : Stage) (ts : List Symbol) → EndsBehind (after_semicolon s) ts → Ends s (step s semicolon ∷ behind [] (after_semicolon s) (λ q. trace q ts))
semicolon_back AfterUser ts (sts, e) = inl (sts, ap (λ l. step AfterUser semicolon ∷ l) e)
semicolon_back AfterEvent ts (sts, e) = inl (sts, ap (λ l. step AfterEvent semicolon ∷ l) e)
semicolon_back PairRead ts (sts, e) = (sts, ap (λ l. step PairRead semicolon ∷ l) e)
semicolon_back _ ts h = absurd h

back : (s : Stage) (t : Symbol) (ts : List Symbol) → EndsBehind (next s t) ts → Ends s (trace s (t ∷ ts))
back s (a_name n) ts h = name_back s n ts h
back s equals ts h = equals_back s ts h
back s comma ts h = comma_back s ts h
back s semicolon ts h = semicolon_back s ts h
back s _ ts h = absurd h

ends_behind : (o : Option Stage) (ts : List Symbol) → ((q : Stage) → reached q ts ≡ Some StatementNeeded → Ends q (trace q ts)) →
    behind None o (λ q. reached q ts) ≡ Some StatementNeeded → EndsBehind o ts
ends_behind None ts later e = absurd (let f : None ≡ Some StatementNeeded = e in cc)
ends_behind (Some q) ts later e = later q e

written : (s : Stage) (ts : List Symbol) → reached s ts ≡ Some StatementNeeded → Ends s (trace s ts)
written s [] e = let same : StatementNeeded ≡ s = (let f : Some s ≡ Some StatementNeeded = e in cc) in subst (λ q. Ends q []) same ([], refl)
written s (t ∷ ts) e = back s t ts (ends_behind (next s t) ts (λ q. written q ts) e)

-- what is read as a whole is the steps of statements
pub statements_written : (ts : List Symbol) → reached StatementNeeded ts ≡ Some StatementNeeded → (sts : List Statement) × (trace StatementNeeded ts ≡ flat_map steps sts)
statements_written ts e = written StatementNeeded ts e

-- The symbols of steps

traced_symbols : (o : Option Stage) (s : Stage) (ts : List Symbol) → behind None o (λ q. reached q ts) ≡ Some s →
    ((q : Stage) → reached q ts ≡ Some s → map (λ (d : Step). d.read) (trace q ts) ≡ ts) → map (λ (d : Step). d.read) (behind [] o (λ q. trace q ts)) ≡ ts
traced_symbols None s ts e later = absurd (let f : None ≡ Some s = e in cc)
traced_symbols (Some q) s ts e later = later q e

pub symbols_of_trace : (s : Stage) (q : Stage) (ts : List Symbol) → reached s ts ≡ Some q → map (λ (d : Step). d.read) (trace s ts) ≡ ts
symbols_of_trace s q [] e = refl
symbols_of_trace s q (t ∷ ts) e = ap (λ l. t ∷ l) (traced_symbols (next s t) q ts e (λ p. symbols_of_trace p q ts))

-- what a symbol of a step is there for
abbrev pub name_part : Stage → List ℕ → Part
name_part StatementNeeded n = fixed (a_name n)
name_part AllowedNeeded n = a_role n
name_part EventNeeded n = an_event n
name_part SeparateFirst n = an_event n
name_part SeparateSecond n = an_event n
name_part BindFirst n = an_event n
name_part BindSecond n = an_event n
name_part _ n = free n

abbrev part_from : Stage → Symbol → Part
part_from s (a_name n) = name_part s n
part_from s t = fixed t

abbrev pub part_of : Step → Part
part_of d = part_from d.stage d.read

symbol_of_name : (s : Stage) (n : List ℕ) → symbol (name_part s n) ≡ a_name n
symbol_of_name StatementNeeded n = refl
symbol_of_name AllowedNeeded n = refl
symbol_of_name EventNeeded n = refl
symbol_of_name SeparateFirst n = refl
symbol_of_name SeparateSecond n = refl
symbol_of_name BindFirst n = refl
symbol_of_name BindSecond n = refl
symbol_of_name _ n = refl

user_parts : (u : List ℕ) (us : List (List ℕ)) → map part_of (user_steps u us) ≡ listed free u us
user_parts u [] = refl
user_parts u (v ∷ us) = ap (λ l. free u ∷ fixed comma ∷ l) (user_parts v us)

event_parts : (e : List ℕ) (es : List (List ℕ)) → map part_of (event_steps e es) ≡ listed an_event e es
event_parts e [] = refl
event_parts e (f ∷ es) = ap (λ l. an_event e ∷ fixed comma ∷ l) (event_parts f es)

parts_of_steps : (st : Statement) → map part_of (steps st) ≡ parts st
parts_of_steps (gives r u us) = ap (λ l. fixed (a_name (codes "role")) ∷ free r ∷ fixed equals ∷ l) (user_parts u us)
parts_of_steps (allows r e es) = ap (λ l. fixed (a_name (codes "allow")) ∷ a_role r ∷ l) (event_parts e es)
parts_of_steps (separates e f) = refl
parts_of_steps (binds e f) = refl

pub parts_of_all : (sts : List Statement) → map part_of (flat_map steps sts) ≡ flat_map parts sts
parts_of_all [] = refl
parts_of_all (st ∷ sts) = map-append part_of (steps st) (flat_map steps sts) ∙ (λ i. parts_of_steps st i ++ parts_of_all sts i)

symbol_of_part : (s : Stage) (t : Symbol) → symbol (part_from s t) ≡ t
symbol_of_part s (a_name n) = symbol_of_name s n
symbol_of_part s _ = refl

symbols_of_parts : (w : List Step) → map symbol (map part_of w) ≡ map (λ (d : Step). d.read) w
symbols_of_parts [] = refl
symbols_of_parts (d ∷ w) = (λ i. symbol_of_part d.stage d.read i ∷ symbols_of_parts w i)

-- what is read as a whole is spelled by the statements of its steps
pub whole_is_spelled : (ts : List Symbol) → reached StatementNeeded ts ≡ Some StatementNeeded → (sts : List Statement) × (trace StatementNeeded ts ≡ flat_map steps sts) × SpellsPolicy ts sts
whole_is_spelled ts e =
    let (sts, same) = statements_written ts e in
    (sts, same, sym (ap (map symbol) (sym (parts_of_all sts) ∙ ap (map part_of) (sym same)) ∙ symbols_of_parts (trace StatementNeeded ts) ∙ symbols_of_trace StatementNeeded StatementNeeded ts e))

-- and only what is spelled is whole
pub spelled_is_whole : (ts : List Symbol) (sts : List Statement) → SpellsPolicy ts sts → (reached StatementNeeded ts ≡ Some StatementNeeded) × (trace StatementNeeded ts ≡ flat_map steps sts)
spelled_is_whole ts sts e =
    let h = statements_read sts in
    (ap (reached StatementNeeded) e ∙ h.1, ap (trace StatementNeeded) e ∙ h.0)

-- Where no policy goes on

reached_behind : (o : Option Stage) (ts more : List Symbol) → ((q : Stage) → reached q (ts ++ more) ≡ behind None (reached q ts) (λ p. reached p more)) →
    behind None o (λ q. reached q (ts ++ more)) ≡ behind None (behind None o (λ q. reached q ts)) (λ p. reached p more)
reached_behind None ts more h = refl
reached_behind (Some q) ts more h = h q

pub reached-append : (s : Stage) (ts more : List Symbol) → reached s (ts ++ more) ≡ behind None (reached s ts) (λ q. reached q more)
reached-append s [] more = refl
reached-append s (t ∷ ts) more = reached_behind (next s t) ts more (λ q. reached-append q ts more)

-- symbols that end the statement
abbrev ending : Stage → List Symbol
ending StatementNeeded = []
ending RoleNeeded = a_name [] ∷ equals ∷ a_name [] ∷ semicolon ∷ []
ending EqualsNeeded = equals ∷ a_name [] ∷ semicolon ∷ []
ending UserNeeded = a_name [] ∷ semicolon ∷ []
ending AfterUser = semicolon ∷ []
ending AllowedNeeded = a_name [] ∷ a_name [] ∷ semicolon ∷ []
ending EventNeeded = a_name [] ∷ semicolon ∷ []
ending AfterEvent = semicolon ∷ []
ending SeparateFirst = a_name [] ∷ a_name [] ∷ semicolon ∷ []
ending SeparateSecond = a_name [] ∷ semicolon ∷ []
ending BindFirst = a_name [] ∷ a_name [] ∷ semicolon ∷ []
ending BindSecond = a_name [] ∷ semicolon ∷ []
ending PairRead = semicolon ∷ []

ended : (s : Stage) → reached s (ending s) ≡ Some StatementNeeded
ended StatementNeeded = refl
ended RoleNeeded = refl
ended EqualsNeeded = refl
ended UserNeeded = refl
ended AfterUser = refl
ended AllowedNeeded = refl
ended EventNeeded = refl
ended AfterEvent = refl
ended SeparateFirst = refl
ended SeparateSecond = refl
ended BindFirst = refl
ended BindSecond = refl
ended PairRead = refl

pub viable_from_reached : (ts : List Symbol) (s : Stage) → reached StatementNeeded ts ≡ Some s → IsViable ts
viable_from_reached ts s e =
    let whole = reached-append StatementNeeded ts (ending s) ∙ ap (λ o. behind None o (λ q. reached q (ending s))) e ∙ ended s in
    let (sts, _, spelled) = whole_is_spelled (ts ++ ending s) whole in
    (ending s, sts, spelled)

pub not_viable_from_stuck : (ts : List Symbol) → reached StatementNeeded ts ≡ None → ¬ IsViable ts
not_viable_from_stuck ts e (rest, sts, spelled) =
    let whole = (spelled_is_whole (ts ++ rest) sts spelled).0 in
    let f : None ≡ Some StatementNeeded = ap (λ o. behind None o (λ q. reached q rest)) (sym e) ∙ sym (reached-append StatementNeeded ts rest) ∙ whole in
    absurd (cc)

pub not_spelled_from_inside : (ts : List Symbol) (s : Stage) → reached StatementNeeded ts ≡ Some s → s ≢ StatementNeeded → (sts : List Statement) → ¬ SpellsPolicy ts sts
not_spelled_from_inside ts s e other sts spelled =
    let f : Some s ≡ Some StatementNeeded = sym e ∙ (spelled_is_whole ts sts spelled).0 in
    absurd (other (cc))
