use Rattle.std.proofs.Common.{◌≡◌, ◌≤◌}
use Rattle.flow_svg.specs.Lines.{blank_end}
use Rattle.flow_svg.proofs.lines.blank_end.Given as goal

abbrev pub invariant-blank : goal.invariant-blank
invariant-blank l = (l.end ≤ l.full) × (blank_end l.text l.full l.full ≡ blank_end l.text l.full l.end)

abbrev pub decreases-blank : goal.decreases-blank
decreases-blank l = l.end
