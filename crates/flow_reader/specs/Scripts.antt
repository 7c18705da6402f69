-- What the code has read of a text, as states of the machine.
use Rattle.std.specs.Prelude.{List, map}
use Rattle.flow_form.specs.Script.{Declared, declared, said}
use Rattle.flow_grammar.specs.Machine as machine
use Rattle.flow_reader.specs.Readers.{arg_state}
use Rattle.flow_reader.specs.Goals.{goal_state}
use Rattle.flow_reader.specs.Rules.{rule_state}
use Rattle.flow_reader.specs.declared.goal_stack.Stack.{Stack}
use Rattle.flow_reader.specs.declared.scripts.ScriptParts.{ScriptParts}
use Rattle.flow_reader.specs.declared.scripts.FactPlace as code_fact
use Rattle.flow_reader.specs.declared.scripts.FactPlace.TheVariants as in_fact
use Rattle.flow_reader.specs.declared.scripts.EventPlace as code_event
use Rattle.flow_reader.specs.declared.scripts.EventPlace.TheVariants as in_event
use Rattle.flow_reader.specs.declared.scripts.FlowPlace as code_flow
use Rattle.flow_reader.specs.declared.scripts.FlowPlace.TheVariants as in_flow
use Rattle.flow_reader.specs.declared.scripts.ScriptPlace as code_place
use Rattle.flow_reader.specs.declared.scripts.ScriptPlace.TheVariants as place

abbrev pub declared_so_far : ScriptParts → List Declared
declared_so_far p = map declared p.script.decls.items

abbrev pub fact_state : List Declared → code_fact.FactPlace → machine.State
fact_state ds in_fact.FactNeeded = machine.fact_to_declare ds
fact_state ds (in_fact.AfterRelation n) = machine.after_declared_relation ds n
fact_state ds (in_fact.InArgs a) = machine.in_declared_args ds (arg_state a)
fact_state ds in_fact.AfterFact = machine.after_fact ds

abbrev pub event_state : List Declared → code_event.EventPlace → machine.State
event_state ds in_event.NameNeeded = machine.event_to_declare ds
event_state ds (in_event.AfterName n) = machine.after_event ds n
event_state ds (in_event.AfterFail n) = machine.after_fail ds n
event_state ds in_event.AfterNote = machine.after_noted ds

abbrev pub flow_state : List Declared → Stack → code_flow.FlowPlace → machine.State
flow_state ds s in_flow.NameNeeded = machine.flow_to_declare ds
flow_state ds s (in_flow.EqualsNeeded n) = machine.equals_needed ds n
flow_state ds s (in_flow.InGoal n g) = machine.in_flow ds n (goal_state s g)

abbrev pub script_state : ScriptParts → code_place.ScriptPlace → machine.State
script_state p place.DeclarationNeeded = machine.declaration_needed (declared_so_far p)
script_state p (place.InFact f) = fact_state (declared_so_far p) f
script_state p (place.InEvent e) = event_state (declared_so_far p) e
script_state p (place.InFlow f) = flow_state (declared_so_far p) p.goals f
script_state p (place.InGoal g) = machine.in_goal (declared_so_far p) (goal_state p.goals g)
script_state p place.ConstraintNeeded = machine.constraint_needed (declared_so_far p) (said p.script).goal (said p.script).rules
script_state p (place.InConstraint r) = machine.in_constraint (declared_so_far p) (said p.script).goal (said p.script).rules (rule_state p.rules r)
