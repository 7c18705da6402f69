use Rattle.std.proofs.Common.{◌+◌}
use Rattle.flow_goal.specs.Goal.{process_of}
use Rattle.flow_goal.proofs.Counting.{goal_size}
use Rattle.flow_goal.proofs.simple.+simplifying.Given as goal

abbrev pub decreases-simple_of : goal.decreases-simple_of
decreases-simple_of l = goal_size (process_of l.goal.now)

abbrev pub decreases-simple_both : goal.decreases-simple_both
decreases-simple_both l = goal_size (process_of l.left.now) + goal_size (process_of l.right.now) + 1
