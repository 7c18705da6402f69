use Rattle.std.proofs.Common.{◌≡◌, ◌++◌, take}
use Rattle.flow_svg.specs.Orders.{course_lines}
use Rattle.flow_svg.proofs.orders.push_courses.Given as goal

abbrev pub invariant-loop-course : goal.invariant-loop-course
invariant-loop-course l = l.text.items ≡ l.initial.text.items ++ course_lines (take l.course-index l.courses)
