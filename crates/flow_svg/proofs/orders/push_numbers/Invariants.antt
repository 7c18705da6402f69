use Rattle.std.proofs.Common.{◌≡◌, ◌++◌, take}
use Rattle.flow_svg.specs.Orders.{number_lines}
use Rattle.flow_svg.proofs.orders.push_numbers.Given as goal

abbrev pub invariant-loop-course : goal.invariant-loop-course
invariant-loop-course l = l.text.items ≡ l.initial.text.items ++ number_lines (take l.course-index l.courses)
