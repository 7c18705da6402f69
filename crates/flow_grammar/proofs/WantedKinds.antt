-- What each state wants could come.
use Rattle.std.proofs.Common.{rules, [], ◌∷◌}
use Rattle.flow_grammar.specs.Symbol.{Symbol, fact_word, event_word, flow_word, goal_word, constraint_word, nop_word, iso_word, ins_word, del_word, must_word, never_word, order_word, precedes_word, needs_word, not_word, holds_word, redundant_word, a_name, a_number, opening, closing, semicolon, equals, question, exclamation}
use Rattle.flow_grammar.specs.Machine.{Step, reading, whole, stuck, carry, ArgState, constant_needed, after_constant, step_arg, wanted_arg, GoalState, atom_needed, after_atom, opening_needed, fact_needed, after_relation, in_args, step_goal, wanted_goal, RuleState, unit_needed, after_unit, name_needed, after_names, step_rule, wanted_rule, State, declaration_needed, fact_to_declare, after_declared_relation, in_declared_args, after_fact, event_to_declare, after_event, after_fail, after_noted, flow_to_declare, equals_needed, in_flow, in_goal, constraint_needed, in_constraint, step_script, finish_script, wanted_script, QueryState, query_needed, in_property, number_needed, after_number, step_query, finish_query, wanted_query}
use Rattle.flow_grammar.specs.Laws.{StandsFor, MayEnd}
use Rattle.flow_grammar.proofs.Runs.{Goes, Wants}

abbrev Moves : {S V : Type 0} → Step S V → Type 0
Moves (reading s) = Unit {0}
Moves (whole x) = Unit {0}
Moves stuck = ⊥

carry_goes : {S V T : Type 0} (within : S → T) (after : V → T) (o : Step S V) → Moves o → Goes (carry within after o)
carry_goes within after (reading s) h = tt
carry_goes within after (whole x) h = tt
carry_goes within after stuck h = h

arg_comes : (a : ArgState) (t : Symbol) → StandsFor (wanted_arg a) t → Moves (step_arg a t)
arg_comes (constant_needed n args) (a_name c) h = tt
arg_comes (constant_needed n args) (a_number c) h = tt
arg_comes (after_constant n args) closing h = tt
arg_comes _ _ h = absurd h

goal_comes : (g : GoalState) (t : Symbol) → StandsFor (wanted_goal g) t → Moves (step_goal g t)
goal_comes (atom_needed fs l) nop_word h = tt
goal_comes (atom_needed fs l) (a_name n) h = tt
goal_comes (atom_needed fs l) question h = tt
goal_comes (atom_needed fs l) exclamation h = tt
goal_comes (atom_needed fs l) ins_word h = tt
goal_comes (atom_needed fs l) del_word h = tt
goal_comes (atom_needed fs l) iso_word h = tt
goal_comes (atom_needed fs l) opening h = tt
goal_comes (opening_needed fs l) opening h = tt
goal_comes (fact_needed p fs l) (a_name n) h = tt
goal_comes (in_args p (constant_needed n args) fs l) (a_name c) h = tt
goal_comes (in_args p (constant_needed n args) fs l) (a_number c) h = tt
goal_comes (in_args p (after_constant n args) fs l) closing h = tt
goal_comes (after_atom [] l) semicolon h = tt
goal_comes (after_atom (f ∷ fs) l) closing h = tt
goal_comes (after_relation p n [] l) semicolon h = tt
goal_comes (after_relation p n (f ∷ fs) l) closing h = tt
goal_comes _ _ h = absurd h

rule_comes : (r : RuleState) (t : Symbol) → StandsFor (wanted_rule r) t → Moves (step_rule r t)
rule_comes (unit_needed fs l k) not_word h = tt
rule_comes (unit_needed fs l k) opening h = tt
rule_comes (unit_needed fs l k) must_word h = tt
rule_comes (unit_needed fs l k) never_word h = tt
rule_comes (unit_needed fs l k) order_word h = tt
rule_comes (unit_needed fs l k) precedes_word h = tt
rule_comes (unit_needed fs l k) needs_word h = tt
rule_comes (name_needed names fs l k) (a_name n) h = tt
rule_comes (after_unit [] l) semicolon h = tt
rule_comes (after_unit (f ∷ fs) l) closing h = tt
rule_comes (after_names ns [] l k) semicolon h = tt
rule_comes (after_names ns (f ∷ fs) l k) closing h = tt
rule_comes _ _ h = absurd h

script_comes : (s : State) (t : Symbol) → StandsFor (wanted_script s) t → Goes (step_script s t)
script_comes (in_declared_args ds a) t h = carry_goes _ _ (step_arg a t) (arg_comes a t h)
script_comes (in_flow ds n g) t h = carry_goes _ _ (step_goal g t) (goal_comes g t h)
script_comes (in_goal ds g) t h = carry_goes _ _ (step_goal g t) (goal_comes g t h)
script_comes (in_constraint ds s rs r) t h = carry_goes _ _ (step_rule r t) (rule_comes r t h)
script_comes (declaration_needed ds) fact_word h = tt
script_comes (declaration_needed ds) event_word h = tt
script_comes (declaration_needed ds) flow_word h = tt
script_comes (declaration_needed ds) goal_word h = tt
script_comes (fact_to_declare ds) (a_name n) h = tt
script_comes (after_declared_relation ds n) semicolon h = tt
script_comes (after_fact ds) semicolon h = tt
script_comes (event_to_declare ds) (a_name n) h = tt
script_comes (after_event ds n) semicolon h = tt
script_comes (after_fail ds n) semicolon h = tt
script_comes (after_noted ds) semicolon h = tt
script_comes (flow_to_declare ds) (a_name n) h = tt
script_comes (equals_needed ds n) equals h = tt
script_comes (constraint_needed ds s rs) constraint_word h = tt
script_comes _ _ h = absurd h

script_ends : (s : State) → MayEnd (wanted_script s) → Goes (finish_script s)
script_ends s h = search rules

query_comes : (s : QueryState) (t : Symbol) → StandsFor (wanted_query s) t → Goes (step_query s t)
query_comes (in_property r) t h = carry_goes _ _ (step_rule r t) (rule_comes r t h)
query_comes query_needed holds_word h = tt
query_comes query_needed redundant_word h = tt
query_comes number_needed (a_number n) h = tt
query_comes (after_number n) semicolon h = tt
query_comes _ _ h = absurd h

query_ends : (s : QueryState) → MayEnd (wanted_query s) → Goes (finish_query s)
query_ends s h = search rules

pub script_wants : Wants step_script finish_script wanted_script
script_wants = record { comes = script_comes; ends = script_ends }

pub query_wants : Wants step_query finish_query wanted_query
query_wants = record { comes = query_comes; ends = query_ends }
