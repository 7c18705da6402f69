use Rattle.std.proofs.Common.{◌≡◌, drop}
use Rattle.flow_svg.specs.Courses.{is_open}
use Rattle.flow_svg.proofs.courses.is_open.Given as goal

abbrev pub invariant-loop-course : goal.invariant-loop-course
invariant-loop-course l = is_open l.x l.courses ≡ is_open l.x (drop l.course-index l.courses)
