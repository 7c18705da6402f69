use Rattle.std.proofs.Common.{◌≤◌, ◌-◌, ◌++◌, ℕ, List}
use Rattle.flow_svg.specs.Cuts.{AreCuts}
use Rattle.flow_svg.proofs.cuts.cuts_of.Given as goal

-- what ends the rows from here on ends those of the whole behind these
abbrev pub invariant-rows : goal.invariant-rows
invariant-rows l = (l.start ≤ l.end) × ((rest : List ℕ) → AreCuts l.spans l.width l.end l.start rest → AreCuts l.spans l.width l.end 0 (l.cuts.items ++ rest))

abbrev pub decreases-rows : goal.decreases-rows
decreases-rows l = l.end - l.start
