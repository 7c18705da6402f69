-- What the readers of the code have read, as states of the machine.
use Rattle.flow_grammar.specs.Machine.{Step, reading, whole, stuck, ArgState, constant_needed, after_constant}
use Rattle.flow_facts.specs.Atom.{Atom}
use Rattle.flow_reader.specs.declared.arguments.ArgReader.{ArgReader}
use Rattle.flow_reader.specs.declared.arguments.ArgReader.TheVariants.{ConstantNeeded, AfterConstant}
use Rattle.flow_reader.specs.declared.arguments.ArgStep.{ArgStep}
use Rattle.flow_reader.specs.declared.arguments.ArgStep.TheVariants as arg

abbrev pub arg_state : ArgReader → ArgState
arg_state (ConstantNeeded n args) = constant_needed n args.items
arg_state (AfterConstant n args) = after_constant n args.items

abbrev pub arg_step : ArgStep → Step ArgState Atom
arg_step (arg.Reading r) = reading (arg_state r)
arg_step (arg.Whole f) = whole f
arg_step arg.Stuck = stuck
