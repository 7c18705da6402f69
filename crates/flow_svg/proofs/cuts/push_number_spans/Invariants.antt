use Rattle.std.proofs.Common.{◌≡◌, ◌++◌, drop, map}
use Rattle.flow_svg.specs.Cuts.{number_span}
use Rattle.flow_svg.proofs.cuts.push_number_spans.Given as goal

abbrev pub invariant-loop-course : goal.invariant-loop-course
invariant-loop-course l = l.spans.items ++ map number_span (drop l.course-index l.courses) ≡ l.initial.spans.items ++ map number_span l.courses
