use Rattle.std.proofs.Common.{◌≡◌, drop}
use Rattle.flow_svg.specs.Courses.{courses_after, courses_of}
use Rattle.flow_svg.proofs.courses.courses_of.Given as goal

abbrev pub invariant-loop-arrow : goal.invariant-loop-arrow
invariant-loop-arrow l = courses_after l.shapes l.top l.courses.items (drop l.arrow-index l.arrows) ≡ courses_of l.shapes l.top l.arrows
