use Rattle.std.proofs.Common.{◌+◌}
use Rattle.flow_goal.specs.Goal.{process_of}
use Rattle.flow_goal.proofs.Counting.{goal_size}
use Rattle.flow_goal.proofs.keeping.+keeping.Given as goal

abbrev pub decreases-put_goal : goal.decreases-put_goal
decreases-put_goal l = goal_size (process_of l.goal.now)

abbrev pub decreases-put_choice : goal.decreases-put_choice
decreases-put_choice l = goal_size (process_of l.left.now) + goal_size (process_of l.right.now) + 1
