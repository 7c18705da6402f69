use Rattle.std.proofs.Common.{◌<◌, ◌≤◌, ℕ}
use Rattle.flow_svg.specs.Cuts.{IsClear}
use Rattle.flow_svg.proofs.cuts.last_clear.Given as goal

abbrev pub invariant-back : goal.invariant-back
invariant-back l = (l.place ≤ l.limit) × ((x : ℕ) → l.place < x → x ≤ l.limit → ¬ (IsClear l.spans x))

abbrev pub decreases-back : goal.decreases-back
decreases-back l = l.place
