use Rattle.std.proofs.Common.{◌<◌, ◌≤◌, ◌-◌, ℕ}
use Rattle.flow_svg.specs.Cuts.{IsClear}
use Rattle.flow_svg.proofs.cuts.first_clear.Given as goal

abbrev pub invariant-on : goal.invariant-on
invariant-on l = (l.from ≤ l.place) × ((x : ℕ) → l.from ≤ x → x < l.place → ¬ (IsClear l.spans x))

abbrev pub decreases-on : goal.decreases-on
decreases-on l = l.end - l.place
