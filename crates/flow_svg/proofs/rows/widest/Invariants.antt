use Rattle.std.proofs.Common.{◌≡◌, drop}
use Rattle.flow_svg.specs.Rows.{widest}
use Rattle.flow_svg.proofs.rows.widest.Given as goal

abbrev pub invariant-loop-cut : goal.invariant-loop-cut
invariant-loop-cut l = widest l.width l.start (drop l.cut-index l.cuts) ≡ widest 0 0 l.cuts
