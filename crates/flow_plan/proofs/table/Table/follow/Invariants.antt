use Rattle.std.proofs.Common.{◌≡◌}
use Rattle.flow_plan.specs.Courses.{IsCourse}
use Rattle.flow_plan.specs.Fields.{IsTableOf}
use Rattle.flow_plan.specs.Planned.{Planned}
use Rattle.flow_plan.proofs.CourseLemmas.{IsFollowing}
use Rattle.flow_plan.proofs.table.Table.follow.Given as goal

abbrev pub invariant-loop-place : goal.invariant-loop-place
invariant-loop-place g l = (p : Planned) → IsTableOf p l.self → p.leaves ≡ l.leaves → IsCourse p l.list l.course → IsFollowing p l.list l.place l.sides
