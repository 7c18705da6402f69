-- What the code has read of a rule, as states of the machine.
use Rattle.flow_form.specs.RuleForm.{rule_shape_of}
use Rattle.flow_grammar.specs.Grammar as grammar
use Rattle.flow_grammar.specs.Machine as machine
use Rattle.flow_reader.specs.declared.rules.Single as code_single
use Rattle.flow_reader.specs.declared.rules.Single.TheVariants as single
use Rattle.flow_reader.specs.declared.rules.Pair as code_pair
use Rattle.flow_reader.specs.declared.rules.Pair.TheVariants as pair
use Rattle.flow_reader.specs.declared.rules.MissingNames as code_names
use Rattle.flow_reader.specs.declared.rules.MissingNames.TheVariants as names
use Rattle.flow_reader.specs.RuleLevels.{rule_level_of, rule_frames_of}
use Rattle.flow_reader.specs.declared.rule_stack.RuleStack as code_stack
use Rattle.flow_reader.specs.declared.rules.RulePlace as code_place
use Rattle.flow_reader.specs.declared.rules.RulePlace.TheVariants as place
use Rattle.flow_reader.specs.declared.rules.RuleStep as code_step
use Rattle.flow_reader.specs.declared.rules.RuleStep.TheVariants as step

abbrev pub single_of : code_single.Single → grammar.Single
single_of single.Must = grammar.must_come
single_of single.Never = grammar.never_come

abbrev pub pair_of : code_pair.Pair → grammar.Pair
pair_of pair.Precedes = grammar.preceding
pair_of pair.Needs = grammar.needing

abbrev pub missing_names : code_names.MissingNames → machine.Names
missing_names (names.One s) = machine.one (single_of s)
missing_names (names.Two p) = machine.two (pair_of p)
missing_names (names.Second p n) = machine.second (pair_of p) n
missing_names names.TwoOrMore = machine.two_or_more
missing_names (names.OneOrMore n) = machine.one_or_more n

abbrev pub rule_state : code_stack.RuleStack → code_place.RulePlace → machine.RuleState
rule_state s (place.UnitNeeded k) = machine.unit_needed (rule_frames_of s.frames.items) (rule_level_of s.level) k
rule_state s place.AfterUnit = machine.after_unit (rule_frames_of s.frames.items) (rule_level_of s.level)
rule_state s (place.NameNeeded ns k) = machine.name_needed (missing_names ns) (rule_frames_of s.frames.items) (rule_level_of s.level) k
rule_state s (place.AfterNames ns k) = machine.after_names ns.items (rule_frames_of s.frames.items) (rule_level_of s.level) k

abbrev pub rule_step : code_stack.RuleStack → code_step.RuleStep → machine.RuleStep
rule_step s (step.Reading p) = machine.reading (rule_state s p)
rule_step s (step.Whole x) = machine.whole (rule_shape_of x)
rule_step s step.Stuck = machine.stuck
