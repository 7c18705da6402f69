use Rattle.std.proofs.Common.{◌+◌, ◌*◌}
use Rattle.flow_goal.specs.Goal.{process_of}
use Rattle.flow_goal.proofs.Counting.{goal_size}
use Rattle.flow_goal.proofs.draft.+laying.Given as goal

abbrev pub decreases-lay : goal.decreases-lay
decreases-lay l = 3 * goal_size (process_of l.goal.now)

abbrev pub decreases-lay_sides : goal.decreases-lay_sides
decreases-lay_sides l = 3 * (goal_size (process_of l.left.now) + goal_size (process_of l.right.now)) + 3

abbrev pub decreases-gather : goal.decreases-gather
decreases-gather l = 3 * goal_size (process_of l.goal.now) + 2

abbrev pub decreases-add_side : goal.decreases-add_side
decreases-add_side l = 3 * goal_size (process_of l.goal.now) + 1
