use Rattle.std.proofs.Common.{◌≡◌, ◌-◌}
use Rattle.flow_svg.specs.Courses.{open_place, open_from}
use Rattle.flow_svg.proofs.courses.open_place.Given as goal

abbrev pub invariant-loop-number : goal.invariant-loop-number
invariant-loop-number l = open_place l.end l.place l.courses ≡ open_from l.end l.place l.courses l.number (8 - l.number)
