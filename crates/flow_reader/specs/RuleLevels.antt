-- The lists and parentheses of a rule that the code has read, as the machine's.
use Rattle.std.specs.Prelude.{List, map, reverse}
use Rattle.flow_model.specs.declared.operators.Connective.{Connective}
use Rattle.flow_model.specs.declared.operators.Connective.TheVariants as connective
use Rattle.flow_form.specs.RuleForm.{RuleShape, rule_shape_of}
use Rattle.flow_grammar.specs.Grammar as grammar
use Rattle.flow_grammar.specs.Machine as machine
use Rattle.flow_reader.specs.declared.rule_levels.RuleLevel as code_level
use Rattle.flow_reader.specs.declared.rule_levels.RuleFrame as code_frame

abbrev pub rule_list : Connective → List RuleShape → RuleShape
rule_list connective.And = grammar.list grammar.rules 0
rule_list connective.Or = grammar.list grammar.rules 1

abbrev pub rule_level_of : code_level.RuleLevel → machine.RuleLevel
rule_level_of l = machine.rule_level (map rule_shape_of l.anys.items) (map rule_shape_of l.alls.items)

abbrev pub rule_frame_of : code_frame.RuleFrame → machine.RuleFrame
rule_frame_of f = machine.rule_parenthesis (rule_level_of f.level) f.nots

-- the innermost stands last in the code, and first in the machine
abbrev pub rule_frames_of : List code_frame.RuleFrame → List machine.RuleFrame
rule_frames_of fs = reverse (map rule_frame_of fs)
