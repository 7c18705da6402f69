use Rattle.flow_case_seen.specs.All.{AreLines}
use Rattle.flow_case_seen.proofs.all.joined.Given as goal

abbrev pub invariant-loop-slot : goal.invariant-loop-slot
invariant-loop-slot g l = AreLines (g.C.Cases.tells l.cases) l.slot-index l.text.items
