-- A text's print is read back.
use Rattle.std.proofs.Common.{rules as std_rules, ◌≡◌, ◌+◌, ◌≤◌, List, [], ◌∷◌, map, flat_map, refl, sym, ap, ◌∙◌, subst, arith}
use Rattle.flow_model.specs.declared.labels.Note.{Note}
use Rattle.flow_model.specs.declared.labels.Note.TheVariants.{Done, Fail, FailFirst}
use Rattle.flow_model.specs.Lists.{Each}
use Rattle.flow_facts.specs.declared.constant.Const.{Const}
use Rattle.flow_form.specs.Form.{IsGrouped}
use Rattle.flow_form.specs.RuleForm.{RuleShape, IsGroupedRule}
use Rattle.flow_form.specs.Script.{Declared, fact, event, flow}
use Rattle.flow_form.specs.Names.{flow_goal}
use Rattle.flow_grammar.specs.Symbol.{Placed, at, symbols, fact_word, event_word, flow_word, goal_word, constraint_word, a_name, equals, semicolon}
use Rattle.flow_grammar.specs.Grammar.{rules, Text, spell, mean, NoteText, silent_text, fail_text, fail_first_text, spell_note, mean_note, noted_text, spell_noted, DeclText, facts_text, events_text, flow_text, spell_fact, spell_items, spell_decl, mean_decl, mean_rule, ScriptText, script_text, spell_decls, spell_constraints, spell_script, mean_script}
use Rattle.flow_model.specs.declared.limits.TheConstants.{GREATEST_DEPTH}
use Rattle.flow_grammar.specs.Texts.{IsShallow, Derives, SpellsScript}
use Rattle.flow_grammar.specs.Made.{IsWellMade}
use Rattle.flow_grammar.specs.Print.{print_goal, print_rule, print_note, print_declared, print_declarations, print_constraints, print_script, arguments_nesting, nesting, rule_nesting, IsWithin}
use Rattle.flow_grammar.specs.PrintLaws.{PrintSaysIt, PrintIsNoDeeper, PrintIsReadBack}
use Rattle.flow_grammar.proofs.Reading.{scripts_are_read}
use Rattle.flow_grammar.proofs.MadeTexts.{scripts_are_well_made, goals_append, facts_goals, events_goals}
use Rattle.flow_grammar.proofs.Printed.{fact_printed, goal_printed, rule_printed}
use Rattle.flow_grammar.proofs.Depths.{after_fact, within}
use Rattle.flow_model.proofs.Lists.{each-append, each_parts}

-- Declarations have derivations that spell their print, and so have constraints

note_printed : (note : Note) →
    (t : NoteText) × (mean_note t ≡ note) × ((r : List Placed) → symbols (spell_note t r) ≡ print_note note (symbols r)) × ((r : List Placed) → IsShallow r → IsShallow (spell_note t r))
note_printed Done = (silent_text, refl, λ r. refl, λ r h. h)
note_printed Fail = (fail_text, refl, λ r. refl, λ r h. (λ k. absurd k, h))
note_printed (FailFirst n) = (fail_first_text n, refl, λ r. refl, λ r h. (λ k. absurd k, (λ k. absurd k, h)))

args_few : (cs : List Const) → 0 + arguments_nesting cs ≤ GREATEST_DEPTH
args_few [] = omega arith
args_few (c ∷ cs) = omega arith

record PrintedDecls (ds : List Declared) : Type 0 where
  pub texts : List DeclText
  pub means : flat_map mean_decl texts ≡ ds
  pub prints : (r : List Placed) → symbols (spell_decls texts r) ≡ print_declarations ds (symbols r)
  pub shallow : Each (λ g. nesting g ≤ GREATEST_DEPTH) (flat_map flow_goal ds) → (r : List Placed) → IsShallow r → IsShallow (spell_decls texts r)

decls_printed : (ds : List Declared) → Each IsGrouped (flat_map flow_goal ds) → PrintedDecls ds
decls_printed [] h = record { texts = []; means = refl; prints = λ r. refl; shallow = λ l r k. k }
decls_printed (fact a ∷ ds) h = let more = decls_printed ds h in let f = fact_printed a in record {
  texts = facts_text f.text [] ∷ more.texts;
  means = rw (f.means, more.means);
  prints = λ r. ap (λ y. fact_word ∷ y) (f.prints 0 (at 0 semicolon ∷ spell_decls more.texts r)) ∙ ap (λ y. print_declared (fact a) y) (more.prints r);
  shallow = λ l r k. (λ j. absurd j, f.shallow 0 (at 0 semicolon ∷ spell_decls more.texts r) (args_few a.args) (λ j. absurd j, more.shallow l r k));
}
decls_printed (event n note ∷ ds) h = let more = decls_printed ds h in let (t, means, prints, shallow) = note_printed note in record {
  texts = events_text (noted_text n t) [] ∷ more.texts;
  means = rw (means, more.means);
  prints = λ r. ap (λ y. event_word ∷ a_name n ∷ y) (prints (at 0 semicolon ∷ spell_decls more.texts r)) ∙ ap (λ y. print_declared (event n note) y) (more.prints r);
  shallow = λ l r k. (λ j. absurd j, (λ j. absurd j, shallow (at 0 semicolon ∷ spell_decls more.texts r) (λ j. absurd j, more.shallow l r k)));
}
decls_printed (flow n s ∷ ds) (h, hs) = let more = decls_printed ds hs in let g = (goal_printed s h).as_goal in record {
  texts = flow_text n g.text ∷ more.texts;
  means = rw (g.means, more.means);
  prints = λ r. ap (λ y. flow_word ∷ a_name n ∷ equals ∷ y) (g.prints 0 (at 0 semicolon ∷ spell_decls more.texts r)) ∙ ap (λ y. print_declared (flow n s) y) (more.prints r);
  shallow = λ (l, ls) r k.
      (λ j. absurd j, (λ j. absurd j, (λ j. absurd j, g.shallow 0 (at 0 semicolon ∷ spell_decls more.texts r) (omega arith) (λ j. absurd j, more.shallow ls r k))));
}

record PrintedConstraints (xs : List RuleShape) : Type 0 where
  pub texts : List (Text rules 2)
  pub means : map mean_rule texts ≡ xs
  pub prints : symbols (spell_constraints texts) ≡ print_constraints xs
  pub shallow : Each (λ x. rule_nesting x ≤ GREATEST_DEPTH) xs → IsShallow (spell_constraints texts)

constraints_printed : (xs : List RuleShape) → Each IsGroupedRule xs → PrintedConstraints xs
constraints_printed [] h = record { texts = []; means = refl; prints = refl; shallow = λ l. tt }
constraints_printed (x ∷ xs) (h, hs) = let more = constraints_printed xs hs in let c = (rule_printed x h).as_rule in record {
  texts = c.text ∷ more.texts;
  means = rw (c.means, more.means);
  prints = ap (λ y. constraint_word ∷ y) (c.prints 0 (at 0 semicolon ∷ spell_constraints more.texts)) ∙ ap (λ y. constraint_word ∷ print_rule x (semicolon ∷ y)) more.prints;
  shallow = λ (l, ls). (λ j. absurd j, c.shallow 0 (at 0 semicolon ∷ spell_constraints more.texts) (omega arith) (λ j. absurd j, more.shallow ls));
}

pub print_says_it : PrintSaysIt
print_says_it s (h, k) (l, m) =
    let made = each_parts IsGrouped (flat_map flow_goal s.decls) (s.goal ∷ []) h in
    let within = each_parts (λ g. nesting g ≤ GREATEST_DEPTH) (flat_map flow_goal s.decls) (s.goal ∷ []) l in
    let deep : nesting s.goal ≤ GREATEST_DEPTH = within.1.0 in
    let ds = decls_printed s.decls made.0 in
    let g = (goal_printed s.goal made.1.0).as_goal in
    let cs = constraints_printed s.rules k in
    let end = at 0 semicolon ∷ spell_constraints cs.texts in (
      spell_script (script_text ds.texts g.text cs.texts),
      ds.prints (at 0 goal_word ∷ spell 0 g.text end) ∙
          (ap (λ y. print_declarations s.decls (goal_word ∷ y)) (g.prints 0 end) ∙
          ap (λ y. print_declarations s.decls (goal_word ∷ print_goal s.goal (semicolon ∷ y))) cs.prints),
      ds.shallow within.0 (at 0 goal_word ∷ spell 0 g.text end) (λ j. absurd j, g.shallow 0 end (omega arith) (λ j. absurd j, cs.shallow m)),
      (script_text ds.texts g.text cs.texts, refl, λ i. record { decls = ds.means i; goal = g.means i; rules = cs.means i }),
    )

-- No text that says it is less deep

after_item : {A : Type 0} (spell_item : A → List Placed → List Placed) → ((x : A) (r : List Placed) → IsShallow (spell_item x r) → IsShallow r) →
    (xs : List A) (r : List Placed) → IsShallow (spell_items spell_item xs r) → IsShallow r
after_item spell_item after [] r h = h
after_item spell_item after (x ∷ xs) r (h, more) = after_item spell_item after xs r (after x (spell_items spell_item xs r) more)

decl_within : (d : DeclText) (r : List Placed) → IsShallow (spell_decl d r) → Each (λ g. nesting g ≤ GREATEST_DEPTH) (flat_map flow_goal (mean_decl d)) × IsShallow r
decl_within (facts_text f fs) r h =
    (facts_goals (λ g. nesting g ≤ GREATEST_DEPTH) fs, (after_item (spell_fact 0) (λ f r k. (after_fact 0 f r (omega arith) k).1) (f ∷ fs) (at 0 semicolon ∷ r) h).1)
decl_within (events_text e es) r h =
    (events_goals (λ g. nesting g ≤ GREATEST_DEPTH) (e ∷ es), (after_item spell_noted (λ e r k. search std_rules) (e ∷ es) (at 0 semicolon ∷ r) h).1)
decl_within (flow_text n g) r (h, (k, (j, more))) =
    let (x, rest) = within g 0 (at 0 semicolon ∷ r) (omega arith) (omega arith) more in
    ((omega arith, tt), rest.1)

decls_within : (ds : List DeclText) (r : List Placed) → IsShallow (spell_decls ds r) → Each (λ g. nesting g ≤ GREATEST_DEPTH) (flat_map flow_goal (flat_map mean_decl ds)) × IsShallow r
decls_within [] r h = (tt, h)
decls_within (d ∷ ds) r h =
    let (x, k) = decl_within d (spell_decls ds r) h in
    let (xs, j) = decls_within ds r k in
    (goals_append (λ g. nesting g ≤ GREATEST_DEPTH) (mean_decl d) (flat_map mean_decl ds) x xs, j)

constraints_within : (cs : List (Text rules 2)) → IsShallow (spell_constraints cs) → Each (λ x. rule_nesting x ≤ GREATEST_DEPTH) (map mean_rule cs)
constraints_within [] h = tt
constraints_within (c ∷ cs) (h, more) =
    let (x, k) = within c 0 (at 0 semicolon ∷ spell_constraints cs) (omega arith) (omega arith) more in
    (omega arith, constraints_within cs k.1)

script_within : (d : ScriptText) → IsShallow (spell_script d) → IsWithin (mean_script d)
script_within (script_text ds g cs) h =
    let (xs, k) = decls_within ds (at 0 goal_word ∷ spell 0 g (at 0 semicolon ∷ spell_constraints cs)) h in
    let (x, j) = within g 0 (at 0 semicolon ∷ spell_constraints cs) (omega arith) (omega arith) k.1 in
    (each-append (λ y. nesting y ≤ GREATEST_DEPTH) (flat_map flow_goal (flat_map mean_decl ds)) (mean g ∷ []) xs (omega arith, tt), constraints_within cs j.1)

pub print_is_no_deeper : PrintIsNoDeeper
print_is_no_deeper ts s (w, e, sh, (d, ew, es)) = subst IsWithin es (script_within d (subst IsShallow (sym ew) sh))

pub print_is_read_back : PrintIsReadBack
print_is_read_back ts s e =
    let h : Derives SpellsScript ts s = (scripts_are_read.reads ts s).0 e in
    let made : IsWellMade s = (scripts_are_well_made h.0 s h.3).0 in
    (scripts_are_read.reads (print_script s) s).1 (print_says_it s made (print_is_no_deeper ts s h))
