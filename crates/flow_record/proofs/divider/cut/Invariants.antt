use Rattle.std.proofs.Common.{length}
use Rattle.flow_record.proofs.CutLemmas.{IsCutFrom}
use Rattle.flow_record.proofs.divider.cut.Given as goal

abbrev pub invariant-loop-line : goal.invariant-loop-line
invariant-loop-line l = IsCutFrom l.source l.place l.rest

abbrev pub decreases-loop-line : goal.decreases-loop-line
decreases-loop-line l = length l.rest
