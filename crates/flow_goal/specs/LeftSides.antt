-- A goal with the left side taken at each choice: one of its resolutions.
use Rattle.flow_model.specs.Process.{Process, Empty, Task, Sequence, Parallel, Choice, Isolated}

abbrev pub left_sides : Process → Process
left_sides Empty = Empty
left_sides (Task n) = Task n
left_sides (Sequence a b) = Sequence (left_sides a) (left_sides b)
left_sides (Parallel a b) = Parallel (left_sides a) (left_sides b)
left_sides (Choice a b) = left_sides a
left_sides (Isolated a) = Isolated (left_sides a)
