-- The names of a text are those of what it says.
use Rattle.std.proofs.Common.{rules as std_rules, ◌≡◌, ℕ, suc, List, [], ◌∷◌, ◌++◌, map, flat_map, refl, sym, ap, ◌∙◌, append_assoc, append-nil}
use Rattle.std.proofs.lemmas.Grind.{flat_map-append}
use Rattle.std.proofs.lemmas.List.{map-append}
use Rattle.flow_facts.specs.declared.constant.Const.{Const}
use Rattle.flow_facts.specs.declared.constant.Const.TheVariants.{Word, Number}
use Rattle.flow_form.specs.Form.{Shape, Shapes, nop, named, test, absent, ins, del, iso, serial, beside, either, no_more, followed, shapes}
use Rattle.flow_form.specs.RuleForm.{RuleShape, rule_shapes}
use Rattle.flow_form.specs.Script.{Declared, fact, event, flow}
use Rattle.flow_form.specs.Names.{declared_name, names_in, names_in_each, names_in_rule, names_in_rules, flow_goal}
use Rattle.flow_grammar.specs.Symbol.{Placed, at, symbols, closing, semicolon, goal_word}
use Rattle.flow_grammar.specs.Grammar.{FactText, bare, applied, spell_constants, spell_fact, mean_fact, spell_names, Kind, goals, rules, Meaning, join, list, gather, Text, joined, group_text, nop_text, name_text, fact_text, iso_text, not_text, single_text, order_text, pair_text, asking, denying, adding, taking, must_come, never_come, preceding, needing, More, no_more_text, then_text, spell, spell_more, mean, mean_more, spell_noted, mean_noted, DeclText, facts_text, events_text, flow_text, spell_items, declared_fact, spell_decl, mean_decl, script_text, spell_decls, spell_constraints, mean_rule, holds_text, redundant_text}
use Rattle.flow_grammar.specs.Texts.{SpellsScript, SpellsQuery}
use Rattle.flow_grammar.specs.Roles.{Role, in_rule, role_name, constant_roles, fact_roles, goal_roles, roles_in_each, declared_roles, script_roles, query_roles, names_of, NamesHaveRoles, declared_by, goal_name, rule_name, declaring, used_in_goals, used_in_rules, RolesAreTheNames}

-- the names in w are these, and then those in r
abbrev Has : List Placed → List (List ℕ) → List Placed → Type 0
Has w ns r = names_of (symbols w) ≡ ns ++ names_of (symbols r)

chain : (xs ys zs : List (List ℕ)) {vs ws : List (List ℕ)} → ws ≡ xs ++ vs → vs ≡ ys ++ zs → ws ≡ (xs ++ ys) ++ zs
chain xs ys zs e e' = e ∙ (ap (λ z. xs ++ z) e' ∙ sym (append_assoc xs ys zs))

-- Facts

constants_have : (d : ℕ) (cs : List Const) (r : List Placed) → Has (spell_constants d cs r) (map role_name (constant_roles cs)) r
constants_have d [] r = refl
constants_have d (Word n ∷ cs) r = ap (λ z. n ∷ z) (constants_have d cs r)
constants_have d (Number n ∷ cs) r = constants_have d cs r

fact_has : (d : ℕ) (f : FactText) (r : List Placed) → Has (spell_fact d f r) (map role_name (fact_roles (mean_fact f))) r
fact_has d (bare n) r = refl
fact_has d (applied n (Word m) cs) r = ap (λ z. n ∷ m ∷ z) (constants_have (suc d) cs (at (suc d) closing ∷ r))
fact_has d (applied n (Number m) cs) r = ap (λ z. n ∷ z) (constants_have (suc d) cs (at (suc d) closing ∷ r))

-- Goals and rules

abbrev names : (k : Kind) → Meaning k → List (List ℕ)
names goals s = map role_name (goal_roles s)
names rules x = names_in_rule x

goals_named : (ss : List Shape) → map role_name (roles_in_each (shapes ss)) ≡ flat_map (names goals) ss
goals_named [] = refl
goals_named (s ∷ ss) = rw (map-append role_name (goal_roles s), goals_named ss)

rules_named : (xs : List RuleShape) → names_in_rules (rule_shapes xs) ≡ flat_map (names rules) xs
rules_named [] = refl
rules_named (x ∷ xs) = rw (rules_named xs)

list_named : (k : Kind) (n : ℕ) (ms : List (Meaning k)) → names k (list k n ms) ≡ flat_map (names k) ms
list_named goals n ss = search (std_rules, goals_named)
list_named rules n xs = search (std_rules, rules_named)

gather_named : (k : Kind) (n : ℕ) (m : Meaning k) (ms : List (Meaning k)) → names k (gather (list k n) (m ∷ ms)) ≡ flat_map (names k) (m ∷ ms)
gather_named k n m [] = sym (append-nil (names k m))
gather_named k n m (m' ∷ ms) = list_named k n (m ∷ m' ∷ ms)

names_have : (d : ℕ) (ns : List (List ℕ)) (r : List Placed) → Has (spell_names d ns r) ns r
names_have d [] r = refl
names_have d (n ∷ ns) r = ap (λ z. n ∷ z) (names_have d ns r)

mutual
  text_has : {k : Kind} {n : ℕ} (t : Text k n) (d : ℕ) (r : List Placed) → Has (spell d t r) (names k (mean t)) r
  text_has {k} (joined {n = n} m ms) d r =
      rw (gather_named k n (mean m) (mean_more ms))
      (chain (names k (mean m)) (flat_map (names k) (mean_more ms)) (names_of (symbols r)) (text_has m d (spell_more d ms r)) (more_has ms d r))
  text_has {k} (group_text t) d r = text_has t (suc d) (at (suc d) closing ∷ r)
  text_has (iso_text g) d r = text_has g (suc d) (at (suc d) closing ∷ r)
  text_has (not_text u) d r = text_has u (suc d) r
  text_has (order_text a b ns) d r = ap (λ z. a ∷ b ∷ z) (names_have d ns r)
  text_has nop_text d r = refl
  text_has (name_text n) d r = refl
  text_has (fact_text asking f) d r = fact_has d f r
  text_has (fact_text denying f) d r = fact_has d f r
  text_has (fact_text adding f) d r = fact_has d f r
  text_has (fact_text taking f) d r = fact_has d f r
  text_has (single_text must_come n) d r = refl
  text_has (single_text never_come n) d r = refl
  text_has (pair_text preceding a b) d r = refl
  text_has (pair_text needing a b) d r = refl

  more_has : {k : Kind} {n : ℕ} (ms : More k n) (d : ℕ) (r : List Placed) → Has (spell_more d ms r) (flat_map (names k) (mean_more ms)) r
  more_has no_more_text d r = refl
  more_has {k} {n} (then_text m ms) d r =
      let ts = symbols (spell d m (spell_more d ms r)) in
      let unnamed : names_of (join k n ∷ ts) ≡ names_of ts = search std_rules in
      unnamed ∙ chain (names k (mean m)) (flat_map (names k) (mean_more ms)) (names_of (symbols r)) (text_has m d (spell_more d ms r)) (more_has ms d r)

-- Texts

items_have : {A : Type 0} (spell_item : A → List Placed → List Placed) (meant : A → Declared) →
    ((x : A) (r : List Placed) → Has (spell_item x r) (map role_name (declared_roles (meant x))) r) → (xs : List A) (r : List Placed) →
    Has (spell_items spell_item xs r) (map role_name (flat_map declared_roles (map meant xs))) r
items_have spell_item meant has [] r = refl
items_have spell_item meant has (x ∷ xs) r =
    rw (map-append role_name (declared_roles (meant x)))
    (chain (map role_name (declared_roles (meant x))) (map role_name (flat_map declared_roles (map meant xs))) (names_of (symbols r))
    (has x (spell_items spell_item xs r)) (items_have spell_item meant has xs r))

decl_has : (d : DeclText) (r : List Placed) → Has (spell_decl d r) (map role_name (flat_map declared_roles (mean_decl d))) r
decl_has (facts_text f fs) r = items_have (spell_fact 0) declared_fact (fact_has 0) (f ∷ fs) (at 0 semicolon ∷ r)
decl_has (events_text e es) r = items_have spell_noted mean_noted (λ i s. search std_rules) (e ∷ es) (at 0 semicolon ∷ r)
decl_has (flow_text n g) r = rw (append-nil (goal_roles (mean g))) (ap (λ z. n ∷ z) (text_has g 0 (at 0 semicolon ∷ r)))

decls_have : (ds : List DeclText) (r : List Placed) → Has (spell_decls ds r) (map role_name (flat_map declared_roles (flat_map mean_decl ds))) r
decls_have [] r = refl
decls_have (d ∷ ds) r =
    rw (flat_map-append declared_roles (mean_decl d), map-append role_name (flat_map declared_roles (mean_decl d)))
    (chain (map role_name (flat_map declared_roles (mean_decl d))) (map role_name (flat_map declared_roles (flat_map mean_decl ds))) (names_of (symbols r))
    (decl_has d (spell_decls ds r)) (decls_have ds r))

constraints_have : (cs : List (Text rules 2)) → names_of (symbols (spell_constraints cs)) ≡ flat_map names_in_rule (map mean_rule cs)
constraints_have [] = refl
constraints_have (c ∷ cs) = text_has c 0 (at 0 semicolon ∷ spell_constraints cs) ∙ ap (λ z. names_in_rule (mean c) ++ z) (constraints_have cs)

in_rules : (ns : List (List ℕ)) → map role_name (map in_rule ns) ≡ ns
in_rules [] = refl
in_rules (n ∷ ns) = ap (λ z. n ∷ z) (in_rules ns)

pub scripts_have_roles : NamesHaveRoles SpellsScript script_roles
scripts_have_roles w x (script_text ds g cs, e, ex) =
    rw (← e, ← ex, map-append role_name (flat_map declared_roles (flat_map mean_decl ds)), map-append role_name (goal_roles (mean g)), in_rules)
    (decls_have ds (at 0 goal_word ∷ spell 0 g (at 0 semicolon ∷ spell_constraints cs)) ∙
    ap (λ z. map role_name (flat_map declared_roles (flat_map mean_decl ds)) ++ z)
    (text_has g 0 (at 0 semicolon ∷ spell_constraints cs) ∙ ap (λ z. map role_name (goal_roles (mean g)) ++ z) (constraints_have cs)))

pub queries_have_roles : NamesHaveRoles SpellsQuery query_roles
queries_have_roles w x (holds_text y, e, ex) = rw (← e, ← ex, in_rules) (text_has y 0 (at 0 semicolon ∷ []) ∙ append-nil (names_in_rule (mean y)))
queries_have_roles w x (redundant_text n, e, ex) = rw (← e, ← ex) refl

-- The roles of each kind

-- of these roles the names declared, those in goals, and those in rules
abbrev AreFor : List (List ℕ) → List (List ℕ) → List (List ℕ) → List Role → Type 0
AreFor ds gs rs roles = (declaring roles ≡ ds) × (used_in_goals roles ≡ gs) × (used_in_rules roles ≡ rs)

both : {ds gs rs ds' gs' rs' : List (List ℕ)} (xs ys : List Role) → AreFor ds gs rs xs → AreFor ds' gs' rs' ys → AreFor (ds ++ ds') (gs ++ gs') (rs ++ rs') (xs ++ ys)
both xs ys (d, g, r) (d', g', r') =
    (rw (flat_map-append declared_by xs ys, d, d'), rw (flat_map-append goal_name xs ys, g, g'), rw (flat_map-append rule_name xs ys, r, r'))

of_constants : (cs : List Const) → AreFor [] [] [] (constant_roles cs)
of_constants [] = (refl, refl, refl)
of_constants (Word n ∷ cs) = of_constants cs
of_constants (Number n ∷ cs) = of_constants cs

mutual
  of_goal : (s : Shape) → AreFor [] (names_in s) [] (goal_roles s)
  of_goal (iso s) = of_goal s
  of_goal (serial ss) = of_goals ss
  of_goal (beside ss) = of_goals ss
  of_goal (either ss) = of_goals ss
  of_goal nop = (refl, refl, refl)
  of_goal (named n) = (refl, refl, refl)
  of_goal (test a) = of_constants a.args
  of_goal (absent a) = of_constants a.args
  of_goal (ins a) = of_constants a.args
  of_goal (del a) = of_constants a.args

  of_goals : (ss : Shapes) → AreFor [] (names_in_each ss) [] (roles_in_each ss)
  of_goals no_more = (refl, refl, refl)
  of_goals (followed s ss) = both (goal_roles s) (roles_in_each ss) (of_goal s) (of_goals ss)

pub of_rules : (ns : List (List ℕ)) → AreFor [] [] ns (map in_rule ns)
of_rules [] = (refl, refl, refl)
of_rules (n ∷ ns) = let (a, b, c) = of_rules ns in (a, b, ap (λ z. n ∷ z) c)

of_decls : (ds : List Declared) → AreFor (flat_map declared_name ds) (flat_map names_in (flat_map flow_goal ds)) [] (flat_map declared_roles ds)
of_decls [] = (refl, refl, refl)
of_decls (fact a ∷ ds) = both (fact_roles a) (flat_map declared_roles ds) (of_constants a.args) (of_decls ds)
of_decls (event n note ∷ ds) = let (a, b, c) = of_decls ds in (ap (λ z. n ∷ z) a, b, c)
of_decls (flow n s ∷ ds) = let (a, b, c) = both (goal_roles s) (flat_map declared_roles ds) (of_goal s) (of_decls ds) in (ap (λ z. n ∷ z) a, b, c)

pub roles_are_the_names : RolesAreTheNames
roles_are_the_names s =
    let ns = flat_map names_in_rule s.rules in
    let (a, b, c) = both (flat_map declared_roles s.decls) (goal_roles s.goal ++ map in_rule ns) (of_decls s.decls)
    (both (goal_roles s.goal) (map in_rule ns) (of_goal s.goal) (of_rules ns)) in
    (a ∙ append-nil (flat_map declared_name s.decls), b ∙ sym (flat_map-append names_in (flat_map flow_goal s.decls) (s.goal ∷ [])), c)
