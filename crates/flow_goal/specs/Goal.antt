-- A goal of the code as a process of the definitions.
use Rattle.flow_goal.specs.declared.goal.Goal.{Goal, Nop, Leaf, Serial', Beside', Either', Iso'}
use Rattle.flow_model.specs.declared.operators.Operator.{Operator}
use Rattle.flow_model.specs.declared.operators.Operator.TheVariants.{Serial, Beside, Either}
use Rattle.flow_model.specs.Process.{Process, Empty, Task, Sequence, Parallel, Choice, Isolated}

abbrev pub process_of : Goal → Process
process_of Nop = Empty
process_of (Leaf n) = Task n
process_of (Serial' p a q b) = Sequence (process_of a) (process_of b)
process_of (Beside' p a q b) = Parallel (process_of a) (process_of b)
process_of (Either' p a q b) = Choice (process_of a) (process_of b)
process_of (Iso' p a) = Isolated (process_of a)

abbrev pub together : Operator → Process → Process → Process
together Serial = Sequence
together Beside = Parallel
together Either = Choice
