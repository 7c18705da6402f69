use Rattle.std.proofs.Common.{take}
use Rattle.flow_plan.proofs.CourseLemmas.{HoldsBoth}
use Rattle.flow_plan.proofs.course.put_in.Given as goal

abbrev pub invariant-loop-leaf : goal.invariant-loop-leaf
invariant-loop-leaf g l = HoldsBoth l.initial.set (take l.leaf-index l.leaves) l.set
