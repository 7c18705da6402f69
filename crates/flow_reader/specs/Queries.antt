-- What the code has read of a query, as states of the machine.
use Rattle.flow_form.specs.Script.{asked}
use Rattle.flow_grammar.specs.Machine as machine
use Rattle.flow_reader.specs.Rules.{rule_state}
use Rattle.flow_reader.specs.declared.rule_stack.RuleStack.{RuleStack}
use Rattle.flow_reader.specs.declared.queries.QueryPlace as code_place
use Rattle.flow_reader.specs.declared.queries.QueryPlace.TheVariants as place

abbrev pub query_state : RuleStack → code_place.QueryPlace → machine.QueryState
query_state s place.QueryNeeded = machine.query_needed
query_state s (place.InProperty r) = machine.in_property (rule_state s r)
query_state s place.NumberNeeded = machine.number_needed
query_state s (place.AfterNumber n) = machine.after_number n
query_state s (place.QueryRead q) = machine.query_read (asked q)
