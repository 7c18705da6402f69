use Rattle.std.proofs.Common.{length, ◌-◌}
use Rattle.flow_audit.proofs.CutLemmas.{AreCutTo}
use Rattle.flow_audit.proofs.cuts.journals.Given as goal

abbrev pub invariant-loop-cuts : goal.invariant-loop-cuts
invariant-loop-cuts l = AreCutTo l.text l.cuts.items l.start

abbrev pub decreases-loop-cuts : goal.decreases-loop-cuts
decreases-loop-cuts l = length l.text - l.start
