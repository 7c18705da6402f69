use Rattle.std.proofs.Common.{length}
use Rattle.leaf_rows.specs.Leaves.{members}
use Rattle.flow_plan.proofs.CourseLemmas.{AreListed}
use Rattle.flow_plan.proofs.course.besides.Given as goal

abbrev pub invariant-loop-leaf : goal.invariant-loop-leaf
invariant-loop-leaf l = AreListed l.initial.rest l.rest l.list.items

abbrev pub decreases-loop-leaf : goal.decreases-loop-leaf
decreases-loop-leaf l = length (members l.rest)
