-- What a text says is well made.
use Rattle.std.proofs.Common.{◌≡◌, ℕ, zero, suc, ◌<◌, ◌≤◌, List, [], ◌∷◌, ◌++◌, map, flat_map, length, subst, ap, ◌∙◌, arith, length-append}
use Rattle.std.proofs.lemmas.Grind.{flat_map-append}
use Rattle.std.proofs.lemmas.List.{length-map}
use Rattle.flow_model.specs.Lists.{Each}
use Rattle.flow_form.specs.Form.{Shape, members, shapes, IsGrouped, AreGrouped}
use Rattle.flow_form.specs.RuleForm.{RuleShape, rule_members, rule_shapes, IsGroupedRule, AreGroupedRules}
use Rattle.flow_form.specs.Script.{Declared, fact, event, flow}
use Rattle.flow_form.specs.Names.{flow_goal, names_in_rule}
use Rattle.flow_grammar.specs.Symbol.{Placed, at, symbols, a_name, semicolon, equals}
use Rattle.flow_grammar.specs.Grammar.{FactText, Kind, goals, rules, Meaning, list, gather, Text, joined, group_text, nop_text, name_text, fact_text, iso_text, not_text, single_text, order_text, pair_text, asking, denying, adding, taking, must_come, never_come, preceding, needing, More, no_more_text, then_text, spell, mean, mean_more, NotedText, noted_text, mean_noted, DeclText, facts_text, events_text, flow_text, declared_fact, mean_decl, ScriptText, script_text, mean_rule, spell_script, holds_text, redundant_text}
use Rattle.flow_grammar.specs.Roles.{in_rule, role_name, fact_roles, goal_roles, declared_roles, script_roles, names_of}
use Rattle.flow_grammar.proofs.RolesOfNames.{scripts_have_roles}
use Rattle.flow_grammar.specs.Made.{IsWellMade, IsWellAsked, ScriptsAreWellMade, QueriesAreWellMade}
use Rattle.flow_model.proofs.Lists.{each-append}

-- A list of several, and what is gathered

pub gathered : {M : Type 0} (P Q : M → Type 0) (list : List M → M) → ((m : M) → P m → Q m) → ((m m' : M) (ms : List M) → Each P (m ∷ m' ∷ ms) → Q (list (m ∷ m' ∷ ms))) →
    (m : M) (ms : List M) → P m → Each P ms → Q (gather list (m ∷ ms))
gathered P Q list one many m [] h hs = one m h
gathered P Q list one many m (m' ∷ ms) h hs = many m m' ms (h, hs)

abbrev Grouped : (k : Kind) → Meaning k → Type 0
Grouped goals = IsGrouped
Grouped rules = IsGroupedRule

are_grouped : (ss : List Shape) → Each IsGrouped ss → AreGrouped (shapes ss)
are_grouped [] h = tt
are_grouped (s ∷ ss) (h, more) = (h, are_grouped ss more)

are_grouped_rules : (rs : List RuleShape) → Each IsGroupedRule rs → AreGroupedRules (rule_shapes rs)
are_grouped_rules [] h = tt
are_grouped_rules (r ∷ rs) (h, more) = (h, are_grouped_rules rs more)

two_or_more : (n : ℕ) → 2 ≤ suc (suc n)
two_or_more n = omega arith

list_grouped : (k : Kind) (n : ℕ) (m m' : Meaning k) (ms : List (Meaning k)) → Each (Grouped k) (m ∷ m' ∷ ms) → Grouped k (list k n (m ∷ m' ∷ ms))
list_grouped goals zero m m' ms h = (two_or_more (length (members (shapes ms))), are_grouped (m ∷ m' ∷ ms) h)
list_grouped goals (suc zero) m m' ms h = (two_or_more (length (members (shapes ms))), are_grouped (m ∷ m' ∷ ms) h)
list_grouped goals (suc (suc n)) m m' ms h = (two_or_more (length (members (shapes ms))), are_grouped (m ∷ m' ∷ ms) h)
list_grouped rules zero m m' ms h = (two_or_more (length (rule_members (rule_shapes ms))), are_grouped_rules (m ∷ m' ∷ ms) h)
list_grouped rules (suc n) m m' ms h = (two_or_more (length (rule_members (rule_shapes ms))), are_grouped_rules (m ∷ m' ∷ ms) h)

mutual
  grouped : {k : Kind} {n : ℕ} (t : Text k n) → Grouped k (mean t)
  grouped {k} (joined {n = n} m ms) =
      gathered (Grouped k) (Grouped k) (list k n) (λ x h. h) (list_grouped k n) (mean m) (mean_more ms) (grouped m) (grouped_more ms)
  grouped (group_text t) = grouped t
  grouped (iso_text g) = grouped g
  grouped (not_text u) = grouped u
  grouped (order_text a b ns) = omega arith
  grouped nop_text = tt
  grouped (name_text n) = tt
  grouped (fact_text asking f) = tt
  grouped (fact_text denying f) = tt
  grouped (fact_text adding f) = tt
  grouped (fact_text taking f) = tt
  grouped (single_text must_come n) = tt
  grouped (single_text never_come n) = tt
  grouped (pair_text preceding a b) = tt
  grouped (pair_text needing a b) = tt

  grouped_more : {k : Kind} {n : ℕ} (ms : More k n) → Each (Grouped k) (mean_more ms)
  grouped_more no_more_text = tt
  grouped_more (then_text m ms) = (grouped m, grouped_more ms)

-- Texts

pub goals_append : (P : Shape → Type 0) (ds es : List Declared) → Each P (flat_map flow_goal ds) → Each P (flat_map flow_goal es) → Each P (flat_map flow_goal (ds ++ es))
goals_append P ds es h k = rw (flat_map-append flow_goal ds es) (each-append P (flat_map flow_goal ds) (flat_map flow_goal es) h k)

pub facts_goals : (P : Shape → Type 0) (fs : List FactText) → Each P (flat_map flow_goal (map declared_fact fs))
facts_goals P [] = tt
facts_goals P (f ∷ fs) = facts_goals P fs

pub events_goals : (P : Shape → Type 0) (es : List NotedText) → Each P (flat_map flow_goal (map mean_noted es))
events_goals P [] = tt
events_goals P (noted_text n note ∷ es) = events_goals P es

decl_goals : (d : DeclText) → Each IsGrouped (flat_map flow_goal (mean_decl d))
decl_goals (facts_text f fs) = facts_goals IsGrouped fs
decl_goals (events_text e es) = events_goals IsGrouped (e ∷ es)
decl_goals (flow_text n g) = (grouped g, tt)

decls_goals : (ds : List DeclText) → Each IsGrouped (flat_map flow_goal (flat_map mean_decl ds))
decls_goals [] = tt
decls_goals (d ∷ ds) = goals_append IsGrouped (mean_decl d) (flat_map mean_decl ds) (decl_goals d) (decls_goals ds)

constraints_grouped : (cs : List (Text rules 2)) → Each IsGroupedRule (map mean_rule cs)
constraints_grouped [] = tt
constraints_grouped (c ∷ cs) = (grouped c, constraints_grouped cs)

-- Each declaration has a name, and the first symbol of a text is none

roles_of_each : (ds : List Declared) → length ds ≤ length (flat_map declared_roles ds)
roles_of_each [] = omega arith
roles_of_each (fact a ∷ ds) = let h = roles_of_each ds in omega (arith, length-append (fact_roles a) (flat_map declared_roles ds))
roles_of_each (event n note ∷ ds) = let h = roles_of_each ds in omega arith
roles_of_each (flow n s ∷ ds) = let h = roles_of_each ds in omega (arith, length-append (goal_roles s) (flat_map declared_roles ds))

few_names : (w : List Placed) → length (names_of (symbols w)) < suc (length w)
few_names [] = omega arith
few_names (at d (a_name n) ∷ w) = let h = few_names w in omega arith
few_names (at d _ ∷ w) = let h = few_names w in omega arith

fewer_names : (d : ScriptText) → length (names_of (symbols (spell_script d))) < length (spell_script d)
fewer_names (script_text (flow_text n f ∷ ds) g cs) = few_names (at 0 (a_name n) ∷ at 0 equals ∷ spell 0 f (at 0 semicolon ∷ spell_script (script_text ds g cs)))
fewer_names _ = few_names _

pub scripts_are_well_made : ScriptsAreWellMade
scripts_are_well_made w x (script_text ds g cs, e, ex) =
    let declared = flat_map declared_roles x.decls in
    let names : length (names_of (symbols w)) ≡ length (script_roles x) = ap length (scripts_have_roles w x (script_text ds g cs, e, ex)) ∙ length-map (script_roles x) role_name in
    let fewer = subst (λ y. length (names_of (symbols y)) < length y) e (fewer_names (script_text ds g cs)) in
    let goals_made = each-append IsGrouped (flat_map flow_goal (flat_map mean_decl ds)) (mean g ∷ []) (decls_goals ds) (grouped g, tt) in
    (subst IsWellMade ex (goals_made, constraints_grouped cs), omega (arith, names, fewer, roles_of_each x.decls, length-append declared (goal_roles x.goal ++ map in_rule (flat_map names_in_rule x.rules))))

pub queries_are_well_made : QueriesAreWellMade
queries_are_well_made w x (holds_text y, e, ex) = subst IsWellAsked ex (grouped y)
queries_are_well_made w x (redundant_text n, e, ex) = subst IsWellAsked ex tt
