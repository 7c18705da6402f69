-- A symbol leads at most one deeper.
use Rattle.std.proofs.Common.{rules, ◌≡◌, ℕ, suc, ◌≤◌, List, [], ◌∷◌, ◌++◌, refl, arith}
use Rattle.std.specs.Prelude.{Option, Some, None}
use Rattle.flow_model.specs.declared.labels.Note.TheVariants.{Done, Fail}
use Rattle.flow_facts.specs.Atom.{Atom, atom}
use Rattle.flow_form.specs.Form.{Shape}
use Rattle.flow_form.specs.RuleForm.{RuleShape}
use Rattle.flow_form.specs.Script.{Declared, fact, event}
use Rattle.flow_grammar.specs.Symbol.{Symbol, fact_word, event_word, flow_word, goal_word, constraint_word, done_word, fail_word, holds_word, redundant_word, a_name, a_number, opening, comma, semicolon, equals}
use Rattle.flow_grammar.specs.Machine.{Step, reading, whole, stuck, carry, GoalState, step_goal, depth_goal, RuleState, step_rule, nots_in, depth_rule}
use Rattle.flow_grammar.specs.Machine as machine
use Rattle.flow_reader.proofs.Heights.{nots_added}

least : (n : ℕ) → 0 ≤ n
least n = omega arith

as_deep : (n : ℕ) → n ≤ n
as_deep n = omega arith

one_deeper : (n : ℕ) → n ≤ suc n
one_deeper n = omega arith

two_deeper : (n : ℕ) → n ≤ suc (suc n)
two_deeper n = omega arith

in_nots : (k d : ℕ) → d ≤ suc (nots_in k d)
in_nots k d = omega (arith, nots_added k d)

in_more_nots : (k d : ℕ) → d ≤ suc (suc (nots_in k d))
in_more_nots k d = omega (arith, nots_added k d)

abbrev StepWithin : {S V : Type 0} → (S → ℕ) → Step S V → ℕ → Type 0
StepWithin depth (reading s) d = depth s ≤ suc d
StepWithin depth (whole x) d = Unit {0}
StepWithin depth stuck d = Unit {0}

goal_within : (g : GoalState) (t : Symbol) → StepWithin depth_goal (step_goal g t) (depth_goal g)
goal_within g t = search (rules, least, as_deep, one_deeper, two_deeper)

rule_within : (r : RuleState) (t : Symbol) → StepWithin depth_rule (step_rule r t) (depth_rule r)
rule_within r t = search (rules, least, as_deep, one_deeper, two_deeper, in_nots, in_more_nots)

abbrev pub Within : {S : Type 0} → (S → ℕ) → Option S → ℕ → Type 0
Within depth None d = Unit {0}
Within depth (Some s) d = depth s ≤ suc d

-- a part that is read as deep as the whole, and what follows it outside all parentheses
carried_within : {S V T : Type 0} (inner : S → ℕ) (depth : T → ℕ) (within : S → T) (after : V → T) → ((s : S) → depth (within s) ≡ inner s) → ((x : V) → depth (after x) ≡ 0) →
    (o : Step S V) (d : ℕ) → StepWithin inner o d → Within depth (carry within after o) d
carried_within inner depth within after same none (reading s) d h = omega (arith, same s, h)
carried_within inner depth within after same none (whole x) d h = omega (arith, none x)
carried_within inner depth within after same none stuck d h = tt

-- the symbols that lead on from where no parenthesis is open
named_within : (next : List ℕ → machine.State) → ((n : List ℕ) → machine.depth_script (next n) ≡ 0) → (t : Symbol) → Within machine.depth_script (machine.with_name next t) 0
named_within next none (a_name n) = omega (arith, none n)
named_within next none _ = tt

item_within : (again : List Declared → machine.State) → ((ds : List Declared) → machine.depth_script (again ds) ≡ 0) → (ds : List Declared) (t : Symbol) →
    Within machine.depth_script (machine.join_item again ds t) 0
item_within again none ds comma = omega (arith, none ds)
item_within again none ds semicolon = least _
item_within again none ds _ = tt

declaration_within : (ds : List Declared) (t : Symbol) → Within machine.depth_script (machine.start_declaration ds t) 0
declaration_within ds fact_word = least _
declaration_within ds event_word = least _
declaration_within ds flow_word = least _
declaration_within ds goal_word = least _
declaration_within ds _ = tt

opened_within : (ds : List Declared) (n : List ℕ) (t : Symbol) → Within machine.depth_script (machine.open_declared_args ds n t) 0
opened_within ds n opening = as_deep _
opened_within ds n t = item_within machine.fact_to_declare (λ ds. refl) (ds ++ fact (atom n []) ∷ []) t

arg_within : (ds : List Declared) (o : Step machine.ArgState Atom) → Within machine.depth_script (machine.after_declared_arg ds o) 1
arg_within ds (reading a) = one_deeper _
arg_within ds (whole f) = least _
arg_within ds stuck = tt

note_within : (ds : List Declared) (n : List ℕ) (t : Symbol) → Within machine.depth_script (machine.note_event ds n t) 0
note_within ds n done_word = least _
note_within ds n fail_word = least _
note_within ds n t = item_within machine.event_to_declare (λ ds. refl) (ds ++ event n Done ∷ []) t

count_within : (ds : List Declared) (n : List ℕ) (t : Symbol) → Within machine.depth_script (machine.count_failures ds n t) 0
count_within ds n (a_number m) = least _
count_within ds n t = item_within machine.event_to_declare (λ ds. refl) (ds ++ event n Fail ∷ []) t

equals_within : (ds : List Declared) (n : List ℕ) (t : Symbol) → Within machine.depth_script (machine.begin_flow ds n t) 0
equals_within ds n equals = least _
equals_within ds n _ = tt

constraint_within : (ds : List Declared) (s : Shape) (rs : List RuleShape) (t : Symbol) → Within machine.depth_script (machine.start_constraint ds s rs t) 0
constraint_within ds s rs constraint_word = least _
constraint_within ds s rs _ = tt

pub script_within : (s : machine.State) (t : Symbol) → Within machine.depth_script (machine.step_script s t) (machine.depth_script s)
script_within (machine.in_flow ds n g) t = carried_within depth_goal machine.depth_script (machine.in_flow ds n) _ (λ s. refl) (λ x. refl) (step_goal g t) (depth_goal g) (goal_within g t)
script_within (machine.in_goal ds g) t = carried_within depth_goal machine.depth_script (machine.in_goal ds) _ (λ s. refl) (λ x. refl) (step_goal g t) (depth_goal g) (goal_within g t)
script_within (machine.in_constraint ds s rs r) t = carried_within depth_rule machine.depth_script (machine.in_constraint ds s rs) _ (λ s. refl) (λ x. refl) (step_rule r t) (depth_rule r) (rule_within r t)
script_within (machine.declaration_needed ds) t = declaration_within ds t
script_within (machine.fact_to_declare ds) t = named_within (machine.after_declared_relation ds) (λ n. refl) t
script_within (machine.after_declared_relation ds n) t = opened_within ds n t
script_within (machine.in_declared_args ds a) t = arg_within ds (machine.step_arg a t)
script_within (machine.after_fact ds) t = item_within machine.fact_to_declare (λ ds. refl) ds t
script_within (machine.event_to_declare ds) t = named_within (machine.after_event ds) (λ n. refl) t
script_within (machine.after_event ds n) t = note_within ds n t
script_within (machine.after_fail ds n) t = count_within ds n t
script_within (machine.after_noted ds) t = item_within machine.event_to_declare (λ ds. refl) ds t
script_within (machine.flow_to_declare ds) t = named_within (machine.equals_needed ds) (λ n. refl) t
script_within (machine.equals_needed ds n) t = equals_within ds n t
script_within (machine.constraint_needed ds s rs) t = constraint_within ds s rs t

pub query_within : (s : machine.QueryState) (t : Symbol) → Within machine.depth_query (machine.step_query s t) (machine.depth_query s)
query_within (machine.in_property r) t = carried_within depth_rule machine.depth_query machine.in_property _ (λ s. refl) (λ x. refl) (step_rule r t) (depth_rule r) (rule_within r t)
query_within machine.query_needed holds_word = least _
query_within machine.query_needed redundant_word = least _
query_within machine.query_needed _ = tt
query_within machine.number_needed (a_number n) = least _
query_within machine.number_needed _ = tt
query_within (machine.after_number n) semicolon = least _
query_within (machine.after_number n) _ = tt
query_within (machine.query_read q) t = tt
