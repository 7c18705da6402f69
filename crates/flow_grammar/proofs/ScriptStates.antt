-- A whole text: what may follow each state.
use Rattle.std.proofs.Common.{◌≡◌, ℕ, ◌⊎◌, Some, List, [], ◌∷◌, ◌++◌, map, refl, sym, ap, ◌∙◌, subst, inl, inr, append_assoc, append-nil}
use Rattle.std.proofs.lemmas.Option.{same_Some, none-some}
use Rattle.flow_model.specs.declared.labels.Note.TheVariants.{Done, Fail, FailFirst}
use Rattle.flow_facts.specs.Atom.{atom}
use Rattle.flow_form.specs.Form.{Shape}
use Rattle.flow_form.specs.RuleForm.{RuleShape}
use Rattle.flow_form.specs.Script.{Declared, fact, event, flow, Said}
use Rattle.flow_grammar.specs.Symbol.{Symbol, Placed, at, Deepens, fact_word, event_word, flow_word, goal_word, constraint_word, done_word, fail_word, a_name, a_number, opening, comma, semicolon, equals}
use Rattle.flow_grammar.specs.Grammar.{bare, applied, spell_fact, goals, rules, Text, spell, mean, NoteText, silent_text, done_text, fail_text, fail_first_text, spell_note, mean_note, noted_text, spell_noted, mean_noted, facts_text, events_text, flow_text, spell_items, declared_fact, ScriptText, script_text, spell_script, mean_script, mean_rule, spell_constraints}
use Rattle.flow_grammar.specs.Machine.{constant_needed, step_arg, step_goal, depth_goal, step_rule, depth_rule, State, declaration_needed, fact_to_declare, after_declared_relation, in_declared_args, after_fact, event_to_declare, after_event, after_fail, after_noted, flow_to_declare, equals_needed, in_flow, in_goal, constraint_needed, in_constraint, join_item, step_script, finish_script, depth_script}
use Rattle.flow_grammar.proofs.Runs.{OnNext, Front, Knows}
use Rattle.flow_grammar.proofs.Carried.{carried_back, front_carried}
use Rattle.flow_grammar.proofs.ArgStates.{ArgRest, arg_forth, arg_back, arg_completes}
use Rattle.flow_grammar.proofs.GoalStates.{GoalRest, goal_forth, goal_back, goal_completes, need_of_goal, goal_of_need, nop_goal, Closing}
use Rattle.flow_grammar.proofs.RuleStates.{RuleRest, rule_forth, rule_back, rule_completes, need_of_rule, rule_of_need}
use Rattle.flow_grammar.proofs.RuleStates as rule_states

-- a text that says s, after these declarations
abbrev said_after : List Declared → Said → Said
said_after ds s = record { decls = ds ++ s.decls; goal = s.goal; rules = s.rules }

abbrev Declarations : List Declared → List Placed → Said → Type 0
Declarations ds w x = (d : ScriptText) × (spell_script d ≡ w) × (said_after ds (mean_script d) ≡ x)

-- after an item of a declaration, and before one
abbrev AfterItem : {A : Type 0} → (A → List Placed → List Placed) → (A → Declared) → List Declared → List Placed → Said → Type 0
AfterItem {A} spell_item meant ds w x =
    (is : List A) × (d : ScriptText) × (spell_items spell_item is (at 0 semicolon ∷ spell_script d) ≡ w) × (said_after (ds ++ map meant is) (mean_script d) ≡ x)

abbrev Item : {A : Type 0} → (A → List Placed → List Placed) → (A → Declared) → List Declared → List Placed → Said → Type 0
Item {A} spell_item meant ds w x = (i : A) × (v : List Placed) × (spell_item i v ≡ w) × AfterItem spell_item meant (ds ++ meant i ∷ []) v x

abbrev AfterFact : List Declared → List Placed → Said → Type 0
AfterFact = AfterItem (spell_fact 0) declared_fact

abbrev AfterNoted : List Declared → List Placed → Said → Type 0
AfterNoted = AfterItem spell_noted mean_noted

abbrev Constraints : List Declared → Shape → List RuleShape → List Placed → Said → Type 0
Constraints ds s rs w x =
    (cs : List (Text rules 2)) × (spell_constraints cs ≡ w) × ((record { decls = ds; goal = s; rules = rs ++ map mean_rule cs }) ≡ x)

abbrev pub Rest : State → List Placed → Said → Type 0
Rest (declaration_needed ds) w x = Declarations ds w x
Rest (fact_to_declare ds) w x = Item (spell_fact 0) declared_fact ds w x
Rest (after_declared_relation ds n) w x =
    AfterFact (ds ++ fact (atom n []) ∷ []) w x ⊎
    ((v : List Placed) × (at 0 opening ∷ v ≡ w) × ArgRest 1 (constant_needed n []) v (λ f r. AfterFact (ds ++ fact f ∷ []) r x))
Rest (in_declared_args ds a) w x = ArgRest 1 a w (λ f r. AfterFact (ds ++ fact f ∷ []) r x)
Rest (after_fact ds) w x = AfterFact ds w x
Rest (event_to_declare ds) w x = Item spell_noted mean_noted ds w x
Rest (after_event ds n) w x =
    (note : NoteText) × (v : List Placed) × (spell_note note v ≡ w) × AfterNoted (ds ++ event n (mean_note note) ∷ []) v x
Rest (after_fail ds n) w x =
    AfterNoted (ds ++ event n Fail ∷ []) w x ⊎
    ((m : ℕ) × (v : List Placed) × (at 0 (a_number m) ∷ v ≡ w) × AfterNoted (ds ++ event n (FailFirst m) ∷ []) v x)
Rest (after_noted ds) w x = AfterNoted ds w x
Rest (flow_to_declare ds) w x =
    (n : List ℕ) × (g : Text goals 3) × (v : List Placed) × (at 0 (a_name n) ∷ at 0 equals ∷ spell 0 g (at 0 semicolon ∷ v) ≡ w) × Declarations (ds ++ flow n (mean g) ∷ []) v x
Rest (equals_needed ds n) w x =
    (g : Text goals 3) × (v : List Placed) × (at 0 equals ∷ spell 0 g (at 0 semicolon ∷ v) ≡ w) × Declarations (ds ++ flow n (mean g) ∷ []) v x
Rest (in_flow ds n g) w x = GoalRest g w (λ s v. Declarations (ds ++ flow n s ∷ []) v x)
Rest (in_goal ds g) w x = GoalRest g w (λ s v. Constraints ds s [] v x)
Rest (constraint_needed ds s rs) w x = Constraints ds s rs w x
Rest (in_constraint ds s rs r) w x = RuleRest r w (λ y v. Constraints ds s (rs ++ y ∷ []) v x)

abbrev Ahead : State → List Placed → Said → Type 0
Ahead = Front step_script finish_script depth_script Rest

-- Declarations that are moved

moved : (ds : List Declared) (d : Declared) (more : List Declared) (s : Said) → said_after ds (said_after (d ∷ more) s) ≡ said_after ((ds ++ d ∷ []) ++ more) s
moved ds d more s = rw (append_assoc (ds ++ d ∷ []) more s.decls, append_assoc ds (d ∷ []) (more ++ s.decls))

moved_one : (ds : List Declared) (d : Declared) (s : Said) → said_after ds (said_after (d ∷ []) s) ≡ said_after (ds ++ d ∷ []) s
moved_one ds d s = rw (append_assoc ds (d ∷ []) s.decls)

-- Items: a comma and an item, or the end

module _ {A : Type 0} (spell_item : A → List Placed → List Placed) (meant : A → Declared) (x : Said) where
  -- in a state that reads a comma and a semicolon as they are read after an item
  items_forth : (s : State) (ds : List Declared) → 0 ≡ depth_script s → ((w : List Placed) → Item spell_item meant ds w x → OnNext Rest (step_script s comma) w x) →
      ((w : List Placed) → Declarations ds w x → OnNext Rest (step_script s semicolon) w x) → (w : List Placed) → AfterItem spell_item meant ds w x → Ahead s w x
  items_forth s ds flat one last w ([], d, e, ex) =
      subst (λ y. Ahead s y x) e (λ h. flat, last _ (d, refl, ap (λ y. said_after y (mean_script d)) (sym (append-nil ds)) ∙ ex))
  items_forth s ds flat one last w (i ∷ is, d, e, ex) =
      let moved = ap (λ y. said_after y (mean_script d)) (append_assoc ds (meant i ∷ []) (map meant is)) ∙ ex in
      subst (λ y. Ahead s y x) e (λ h. flat, one _ (i, _, refl, (is, d, refl, moved)))

  items_back : (again : List Declared → State) → ((ds : List Declared) (w : List Placed) → Rest (again ds) w x → Item spell_item meant ds w x) →
      (ds : List Declared) (t : Symbol) (w : List Placed) →
      OnNext Rest (join_item again ds t) w x → AfterItem spell_item meant ds (at 0 t ∷ w) x
  items_back again same ds comma w h =
      let (i, v, e, (is, d, e', ex)) = same ds w h in
      let after = ap (λ y. said_after y (mean_script d)) (sym (append_assoc ds (meant i ∷ []) (map meant is))) in
      (i ∷ is, d, ap (λ y. at 0 comma ∷ y) (ap (spell_item i) e' ∙ e), after ∙ ex)
  items_back again same ds semicolon w (d, e, ex) =
      ([], d, ap (λ y. at 0 semicolon ∷ y) e, ap (λ y. said_after y (mean_script d)) (append-nil ds) ∙ ex)
  items_back again same ds _ w h = absurd h

-- Forth

script_forth : (s : State) (w : List Placed) (x : Said) → Rest s w x → Ahead s w x
script_forth (declaration_needed ds) w x (script_text [] g cs, e, ex) =
    let said = ap (λ y. record { decls = y; goal = mean g; rules = map mean_rule cs }) (sym (append-nil ds)) ∙ ex in
    subst (λ y. Ahead (declaration_needed ds) y x) e
    (λ h. refl, need_of_goal (Closing (λ s v. Constraints ds s [] v x) []) 0 g (at 0 semicolon ∷ spell_constraints cs) (_, refl, (cs, refl, said)))
script_forth (declaration_needed ds) w x (script_text (facts_text f fs ∷ more) g cs, e, ex) =
    subst (λ y. Ahead (declaration_needed ds) y x) e
    (λ h. refl, (f, _, refl, (fs, script_text more g cs, refl, sym (moved ds (declared_fact f) (map declared_fact fs) (mean_script (script_text more g cs))) ∙ ex)))
script_forth (declaration_needed ds) w x (script_text (events_text i es ∷ more) g cs, e, ex) =
    subst (λ y. Ahead (declaration_needed ds) y x) e
    (λ h. refl, (i, _, refl, (es, script_text more g cs, refl, sym (moved ds (mean_noted i) (map mean_noted es) (mean_script (script_text more g cs))) ∙ ex)))
script_forth (declaration_needed ds) w x (script_text (flow_text n f ∷ more) g cs, e, ex) =
    subst (λ y. Ahead (declaration_needed ds) y x) e
    (λ h. refl, (n, f, _, refl, (script_text more g cs, refl, sym (moved_one ds (flow n (mean f)) (mean_script (script_text more g cs))) ∙ ex)))
script_forth (fact_to_declare ds) w x (bare n, v, e, h) = subst (λ y. Ahead (fact_to_declare ds) y x) e (λ h'. refl, inl h)
script_forth (fact_to_declare ds) w x (applied n c cs, v, e, h) =
    subst (λ y. Ahead (fact_to_declare ds) y x) e (λ h'. refl, inr (_, refl, (c, cs, v, refl, h)))
script_forth (after_declared_relation ds n) w x (inl h) =
    items_forth (spell_fact 0) declared_fact x (after_declared_relation ds n) (ds ++ fact (atom n []) ∷ []) refl (λ v k. k) (λ v k. k) w h
script_forth (after_declared_relation ds n) w x (inr (v, e, h)) = subst (λ y. Ahead (after_declared_relation ds n) y x) e (λ h'. refl, h)
script_forth (in_declared_args ds a) w x h =
    front_carried (ArgRest 1) Rest (in_declared_args ds) (λ f. after_fact (ds ++ fact f ∷ [])) _ x step_arg (λ a'. 1) step_script finish_script depth_script
    (λ s' r k. k) (λ y r k. k) a refl (λ t. refl) w
    (arg_forth 1 a w (λ f r. AfterFact (ds ++ fact f ∷ []) r x) h)
script_forth (after_fact ds) w x h = items_forth (spell_fact 0) declared_fact x (after_fact ds) ds refl (λ v k. k) (λ v k. k) w h
script_forth (event_to_declare ds) w x (noted_text n note, v, e, h) = subst (λ y. Ahead (event_to_declare ds) y x) e (λ h'. refl, (note, v, refl, h))
script_forth (after_event ds n) w x (silent_text, v, e, h) =
    items_forth spell_noted mean_noted x (after_event ds n) (ds ++ event n Done ∷ []) refl (λ v k. k) (λ v k. k) w (subst (λ y. AfterNoted (ds ++ event n Done ∷ []) y x) e h)
script_forth (after_event ds n) w x (done_text, v, e, h) = subst (λ y. Ahead (after_event ds n) y x) e (λ h'. refl, h)
script_forth (after_event ds n) w x (fail_text, v, e, h) = subst (λ y. Ahead (after_event ds n) y x) e (λ h'. refl, inl h)
script_forth (after_event ds n) w x (fail_first_text m, v, e, h) = subst (λ y. Ahead (after_event ds n) y x) e (λ h'. refl, inr (m, v, refl, h))
script_forth (after_fail ds n) w x (inl h) = items_forth spell_noted mean_noted x (after_fail ds n) (ds ++ event n Fail ∷ []) refl (λ v k. k) (λ v k. k) w h
script_forth (after_fail ds n) w x (inr (m, v, e, h)) = subst (λ y. Ahead (after_fail ds n) y x) e (λ h'. refl, h)
script_forth (after_noted ds) w x h = items_forth spell_noted mean_noted x (after_noted ds) ds refl (λ v k. k) (λ v k. k) w h
script_forth (flow_to_declare ds) w x (n, g, v, e, h) = subst (λ y. Ahead (flow_to_declare ds) y x) e (λ h'. refl, (g, v, refl, h))
script_forth (equals_needed ds n) w x (g, v, e, h) =
    subst (λ y. Ahead (equals_needed ds n) y x) e
    (λ h'. refl, need_of_goal (Closing (λ s r. Declarations (ds ++ flow n s ∷ []) r x) []) 0 g (at 0 semicolon ∷ v) (v, refl, h))
script_forth (in_flow ds n g) w x h =
    front_carried GoalRest Rest (in_flow ds n) (λ s. declaration_needed (ds ++ flow n s ∷ [])) _ x step_goal depth_goal step_script finish_script depth_script
    (λ s' r k. k) (λ y r k. k) g refl (λ t. refl) w
    (goal_forth g w (λ s v. Declarations (ds ++ flow n s ∷ []) v x) h)
script_forth (in_goal ds g) w x h =
    front_carried GoalRest Rest (in_goal ds) (λ s. constraint_needed ds s []) _ x step_goal depth_goal step_script finish_script depth_script
    (λ s' r k. k) (λ y r k. k) g refl (λ t. refl) w
    (goal_forth g w (λ s v. Constraints ds s [] v x) h)
script_forth (constraint_needed ds s rs) w x ([], e, ex) =
    subst (λ y. Ahead (constraint_needed ds s rs) y x) e
    (ap Some (ap (λ y. record { decls = ds; goal = s; rules = y }) (sym (append-nil rs)) ∙ ex))
script_forth (constraint_needed ds s rs) w x (c ∷ cs, e, ex) =
    let said = ap (λ y. record { decls = ds; goal = s; rules = y }) (append_assoc rs (mean c ∷ []) (map mean_rule cs)) ∙ ex in
    subst (λ y. Ahead (constraint_needed ds s rs) y x) e
    (λ h. refl, need_of_rule (rule_states.Closing (λ y v. Constraints ds s (rs ++ y ∷ []) v x) []) 0 c (at 0 semicolon ∷ spell_constraints cs) (_, refl, (cs, refl, said)))
script_forth (in_constraint ds s rs r) w x h =
    front_carried RuleRest Rest (in_constraint ds s rs) (λ y. constraint_needed ds s (rs ++ y ∷ [])) _ x step_rule depth_rule step_script finish_script depth_script
    (λ s' r k. k) (λ y r k. k) r refl (λ t. refl) w
    (rule_forth r w (λ y v. Constraints ds s (rs ++ y ∷ []) v x) h)

-- Back

abbrev Back : State → Symbol → List Placed → Said → Type 0
Back s t w x = OnNext Rest (step_script s t) w x → Rest s (at 0 t ∷ w) x

declaration_back : (ds : List Declared) (t : Symbol) (w : List Placed) (x : Said) → Back (declaration_needed ds) t w x
declaration_back ds fact_word w x (f, v, e, (fs, script_text more g cs, e', ex)) =
    let said = moved ds (declared_fact f) (map declared_fact fs) (mean_script (script_text more g cs)) ∙ ex in
    (script_text (facts_text f fs ∷ more) g cs, ap (λ y. at 0 fact_word ∷ y) (ap (spell_fact 0 f) e' ∙ e), said)
declaration_back ds event_word w x (i, v, e, (es, script_text more g cs, e', ex)) =
    let said = moved ds (mean_noted i) (map mean_noted es) (mean_script (script_text more g cs)) ∙ ex in
    (script_text (events_text i es ∷ more) g cs, ap (λ y. at 0 event_word ∷ y) (ap (spell_noted i) e' ∙ e), said)
declaration_back ds flow_word w x (n, f, v, e, (script_text more g cs, e', ex)) =
    let said = moved_one ds (flow n (mean f)) (mean_script (script_text more g cs)) ∙ ex in
    let spelled = ap (λ y. at 0 (a_name n) ∷ at 0 equals ∷ spell 0 f (at 0 semicolon ∷ y)) e' ∙ e in
    (script_text (flow_text n f ∷ more) g cs, ap (λ y. at 0 flow_word ∷ y) spelled, said)
declaration_back ds goal_word w x h =
    let (g, r, e, (v, e', (cs, e2, ex))) = goal_of_need (Closing (λ s v. Constraints ds s [] v x) []) 0 w h in
    let said = ap (λ y. record { decls = y; goal = mean g; rules = map mean_rule cs }) (append-nil ds) ∙ ex in
    (script_text [] g cs, ap (λ y. at 0 goal_word ∷ y) (ap (spell 0 g) (ap (λ y. at 0 semicolon ∷ y) e2 ∙ e') ∙ e), said)
declaration_back ds _ w x h = absurd h

events_back : (ds : List Declared) (t : Symbol) (w : List Placed) (x : Said) → Back (after_noted ds) t w x
events_back ds t w x h = items_back spell_noted mean_noted x event_to_declare (λ ds' v k. k) ds t w h

-- a relation alone is a fact
relation_back : (ds : List Declared) (t : Symbol) (w : List Placed) (x : Said) → Back (after_fact ds) t w x
relation_back ds t w x h = items_back (spell_fact 0) declared_fact x fact_to_declare (λ ds' v k. k) ds t w h

fact_back : (ds : List Declared) (t : Symbol) (w : List Placed) (x : Said) → Back (fact_to_declare ds) t w x
fact_back ds (a_name n) w x (inl h) = (bare n, w, refl, h)
fact_back ds (a_name n) w x (inr (v, e, (c, cs, r, e', h))) = (applied n c cs, r, ap (λ y. at 0 (a_name n) ∷ y) (ap (λ y. at 0 opening ∷ y) e' ∙ e), h)
fact_back ds _ w x h = absurd h

arguments_back : (ds : List Declared) (n : List ℕ) (t : Symbol) (w : List Placed) (x : Said) → Back (after_declared_relation ds n) t w x
arguments_back ds n opening w x h = inr (w, refl, h)
arguments_back ds n t w x h = inl (relation_back (ds ++ fact (atom n []) ∷ []) t w x h)

event_back : (ds : List Declared) (t : Symbol) (w : List Placed) (x : Said) → Back (event_to_declare ds) t w x
event_back ds (a_name n) w x (note, v, e, h) = (noted_text n note, v, ap (λ y. at 0 (a_name n) ∷ y) e, h)
event_back ds _ w x h = absurd h

note_back : (ds : List Declared) (n : List ℕ) (t : Symbol) (w : List Placed) (x : Said) → Back (after_event ds n) t w x
note_back ds n done_word w x h = (done_text, w, refl, h)
note_back ds n fail_word w x (inl h) = (fail_text, w, refl, h)
note_back ds n fail_word w x (inr (m, v, e, h)) = (fail_first_text m, v, ap (λ y. at 0 fail_word ∷ y) e, h)
note_back ds n t w x h = (silent_text, at 0 t ∷ w, refl, events_back (ds ++ event n Done ∷ []) t w x h)

fail_back : (ds : List Declared) (n : List ℕ) (t : Symbol) (w : List Placed) (x : Said) → Back (after_fail ds n) t w x
fail_back ds n (a_number m) w x h = inr (m, w, refl, h)
fail_back ds n t w x h = inl (events_back (ds ++ event n Fail ∷ []) t w x h)

flow_back : (ds : List Declared) (t : Symbol) (w : List Placed) (x : Said) → Back (flow_to_declare ds) t w x
flow_back ds (a_name n) w x (g, v, e, h) = (n, g, v, ap (λ y. at 0 (a_name n) ∷ y) e, h)
flow_back ds _ w x h = absurd h

equals_back : (ds : List Declared) (n : List ℕ) (t : Symbol) (w : List Placed) (x : Said) → Back (equals_needed ds n) t w x
equals_back ds n equals w x h =
    let (g, r, e, (v, e', k)) = goal_of_need (Closing (λ s v. Declarations (ds ++ flow n s ∷ []) v x) []) 0 w h in
    (g, v, ap (λ y. at 0 equals ∷ y) (ap (spell 0 g) e' ∙ e), k)
equals_back ds n _ w x h = absurd h

constraint_back : (ds : List Declared) (s : Shape) (rs : List RuleShape) (t : Symbol) (w : List Placed) (x : Said) → Back (constraint_needed ds s rs) t w x
constraint_back ds s rs constraint_word w x h =
    let (c, r, e, (v, e', (cs, e2, ex))) = rule_of_need (rule_states.Closing (λ y v. Constraints ds s (rs ++ y ∷ []) v x) []) 0 w h in
    let said = ap (λ y. record { decls = ds; goal = s; rules = y }) (sym (append_assoc rs (mean c ∷ []) (map mean_rule cs))) ∙ ex in
    (c ∷ cs, ap (λ y. at 0 constraint_word ∷ y) (ap (spell 0 c) (ap (λ y. at 0 semicolon ∷ y) e2 ∙ e') ∙ e), said)
constraint_back ds s rs _ w x h = absurd h

script_back : (s : State) (t : Symbol) (w : List Placed) (x : Said) → OnNext Rest (step_script s t) w x →
    (n : ℕ) × (Deepens t → n ≡ depth_script s) × Rest s (at n t ∷ w) x
script_back (declaration_needed ds) t w x h = (0, λ h'. refl, declaration_back ds t w x h)
script_back (fact_to_declare ds) t w x h = (0, λ h'. refl, fact_back ds t w x h)
script_back (after_declared_relation ds n) t w x h = (0, λ h'. refl, arguments_back ds n t w x h)
script_back (in_declared_args ds a) t w x h = (
  1,
  λ h'. refl,
  arg_back 1 a t w (λ f r. AfterFact (ds ++ fact f ∷ []) r x)
      (carried_back (ArgRest 1) Rest (in_declared_args ds) (λ f. after_fact (ds ++ fact f ∷ [])) _ x (λ s' r k. k) (λ y r k. k) (step_arg a t) w h),
)
script_back (after_fact ds) t w x h = (0, λ h'. refl, relation_back ds t w x h)
script_back (event_to_declare ds) t w x h = (0, λ h'. refl, event_back ds t w x h)
script_back (after_event ds n) t w x h = (0, λ h'. refl, note_back ds n t w x h)
script_back (after_fail ds n) t w x h = (0, λ h'. refl, fail_back ds n t w x h)
script_back (after_noted ds) t w x h = (0, λ h'. refl, events_back ds t w x h)
script_back (flow_to_declare ds) t w x h = (0, λ h'. refl, flow_back ds t w x h)
script_back (equals_needed ds n) t w x h = (0, λ h'. refl, equals_back ds n t w x h)
script_back (in_flow ds n g) t w x h = (
  depth_goal g,
  λ h'. refl,
  goal_back g t w (λ s v. Declarations (ds ++ flow n s ∷ []) v x)
      (carried_back GoalRest Rest (in_flow ds n) (λ s. declaration_needed (ds ++ flow n s ∷ [])) _ x (λ s' r k. k) (λ y r k. k) (step_goal g t) w h),
)
script_back (in_goal ds g) t w x h = (
  depth_goal g,
  λ h'. refl,
  goal_back g t w (λ s v. Constraints ds s [] v x)
      (carried_back GoalRest Rest (in_goal ds) (λ s. constraint_needed ds s []) _ x (λ s' r k. k) (λ y r k. k) (step_goal g t) w h),
)
script_back (constraint_needed ds s rs) t w x h = (0, λ h'. refl, constraint_back ds s rs t w x h)
script_back (in_constraint ds s rs r) t w x h =
    rule_back r t w (λ y v. Constraints ds s (rs ++ y ∷ []) v x)
    (carried_back RuleRest Rest (in_constraint ds s rs) (λ y. constraint_needed ds s (rs ++ y ∷ [])) _ x (λ s' r k. k) (λ y r k. k) (step_rule r t) w h)

script_ended : (s : State) (x : Said) → finish_script s ≡ Some x → Rest s [] x
script_ended (constraint_needed ds s rs) x e =
    ([], refl, ap (λ y. record { decls = ds; goal = s; rules = y }) (append-nil rs) ∙ same_Some (record { decls = ds; goal = s; rules = rs }) x e)
script_ended _ x e = absurd (none-some x e)

-- Each state can be completed

least : ScriptText
least = script_text [] nop_goal []

script_completes : (s : State) → (w : List Placed) × (x : Said) × Rest s w x
script_completes (declaration_needed ds) = (_, _, (least, refl, refl))
script_completes (fact_to_declare ds) = (_, _, (bare [], _, refl, ([], least, refl, refl)))
script_completes (after_declared_relation ds n) = (_, _, inl ([], least, refl, refl))
script_completes (in_declared_args ds a) =
    arg_completes 1 a (λ x f r. AfterFact (ds ++ fact f ∷ []) r x) (λ f. (_, _, ([], least, refl, refl)))
script_completes (event_to_declare ds) = (_, _, (noted_text [] silent_text, _, refl, ([], least, refl, refl)))
script_completes (after_event ds n) = (_, _, (silent_text, _, refl, ([], least, refl, refl)))
script_completes (after_fail ds n) = (_, _, inl ([], least, refl, refl))
script_completes (flow_to_declare ds) = (_, _, ([], nop_goal, _, refl, (least, refl, refl)))
script_completes (equals_needed ds n) = (_, _, (nop_goal, _, refl, (least, refl, refl)))
script_completes (in_flow ds n g) =
    goal_completes g (λ x s v. Declarations (ds ++ flow n s ∷ []) v x) (λ s. (_, _, (least, refl, refl)))
script_completes (in_goal ds g) = goal_completes g (λ x s v. Constraints ds s [] v x) (λ s. (_, _, ([], refl, refl)))
script_completes (constraint_needed ds s rs) = (_, _, ([], refl, refl))
script_completes (in_constraint ds s rs r) =
    rule_completes r (λ x y v. Constraints ds s (rs ++ y ∷ []) v x) (λ y. (_, _, ([], refl, refl)))
script_completes _ = (_, _, ([], least, refl, refl))

pub script_knows : Knows step_script finish_script depth_script Rest
script_knows = record { forth = script_forth; back = script_back; ended = script_ended; completes = script_completes }
