use Rattle.std.proofs.Common.{◌+◌, ◌*◌}
use Rattle.flow_goal.specs.Goal.{process_of}
use Rattle.flow_goal.proofs.Counting.{goal_size}
use Rattle.flow_view.proofs.build.+drawing.Given as goal

abbrev pub decreases-drawn : goal.decreases-drawn
decreases-drawn l = 4 * goal_size (process_of l.goal.now) + 2

abbrev pub decreases-drawn_call : goal.decreases-drawn_call
decreases-drawn_call l = 4 * goal_size (process_of l.goal.now) + 1

abbrev pub decreases-inside : goal.decreases-inside
decreases-inside l = 4 * goal_size (process_of l.goal.now)

abbrev pub decreases-drawn_row : goal.decreases-drawn_row
decreases-drawn_row l = 4 * (goal_size (process_of l.left.now) + goal_size (process_of l.right.now)) + 3

abbrev pub decreases-drawn_fork : goal.decreases-drawn_fork
decreases-drawn_fork l = 4 * (goal_size (process_of l.left.now) + goal_size (process_of l.right.now)) + 3

abbrev pub decreases-drawn_isolation : goal.decreases-drawn_isolation
decreases-drawn_isolation l = 4 * goal_size (process_of l.part.now) + 3
