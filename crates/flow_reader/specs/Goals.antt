-- What the code has read of a goal, as states of the machine.
use Rattle.std.specs.Prelude.{Bool, true, false, List, map, reverse}
use Rattle.flow_model.specs.declared.labels.Deed.{Deed}
use Rattle.flow_model.specs.declared.labels.Deed.TheVariants as deed
use Rattle.flow_model.specs.declared.operators.Operator.{Operator}
use Rattle.flow_model.specs.declared.operators.Operator.TheVariants as operator
use Rattle.flow_form.specs.Form.{Shape, shape_of}
use Rattle.flow_grammar.specs.Grammar as grammar
use Rattle.flow_grammar.specs.Machine as machine
use Rattle.flow_reader.specs.Readers.{arg_state}
use Rattle.flow_reader.specs.declared.goal_stack.Level as code_level
use Rattle.flow_reader.specs.declared.goal_stack.Frame as code_frame
use Rattle.flow_reader.specs.declared.goal_stack.Stack as code_stack
use Rattle.flow_reader.specs.declared.goals.GoalPlace as code_place
use Rattle.flow_reader.specs.declared.goals.GoalPlace.TheVariants as place
use Rattle.flow_reader.specs.declared.goals.GoalStep as code_step
use Rattle.flow_reader.specs.declared.goals.GoalStep.TheVariants as step

abbrev pub prefix_of : Deed → grammar.Prefix
prefix_of deed.Test = grammar.asking
prefix_of deed.Absent = grammar.denying
prefix_of deed.Ins = grammar.adding
prefix_of deed.Del = grammar.taking

abbrev pub goal_list : Operator → List Shape → Shape
goal_list operator.Serial = grammar.list grammar.goals 0
goal_list operator.Beside = grammar.list grammar.goals 1
goal_list operator.Either = grammar.list grammar.goals 2

abbrev pub level_of : code_level.Level → machine.Level
level_of l = machine.level (map shape_of l.eithers.items) (map shape_of l.besides.items) (map shape_of l.serials.items)

abbrev pub frame : Bool → machine.Level → machine.Frame
frame true = machine.isolation
frame false = machine.parenthesis

abbrev pub frame_of : code_frame.Frame → machine.Frame
frame_of f = frame f.isolates (level_of f.level)

-- the innermost stands last in the code, and first in the machine
abbrev pub frames_of : List code_frame.Frame → List machine.Frame
frames_of fs = reverse (map frame_of fs)

abbrev pub goal_state : code_stack.Stack → code_place.GoalPlace → machine.GoalState
goal_state s place.AtomNeeded = machine.atom_needed (frames_of s.frames.items) (level_of s.level)
goal_state s place.AfterAtom = machine.after_atom (frames_of s.frames.items) (level_of s.level)
goal_state s place.OpeningNeeded = machine.opening_needed (frames_of s.frames.items) (level_of s.level)
goal_state s (place.FactNeeded p) = machine.fact_needed (prefix_of p) (frames_of s.frames.items) (level_of s.level)
goal_state s (place.AfterRelation p n) = machine.after_relation (prefix_of p) n (frames_of s.frames.items) (level_of s.level)
goal_state s (place.InArgs p a) = machine.in_args (prefix_of p) (arg_state a) (frames_of s.frames.items) (level_of s.level)

abbrev pub goal_step : code_stack.Stack → code_step.GoalStep → machine.GoalStep
goal_step s (step.Reading p) = machine.reading (goal_state s p)
goal_step s (step.Whole f) = machine.whole (shape_of f)
goal_step s step.Stuck = machine.stuck
