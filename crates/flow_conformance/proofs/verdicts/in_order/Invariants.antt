use Rattle.flow_conformance.proofs.ShareLemmas.{AreFirst}
use Rattle.flow_conformance.proofs.verdicts.in_order.Given as goal

abbrev pub invariant-loop-place : goal.invariant-loop-place
invariant-loop-place g l = AreFirst (g.J.Judge.judges l.judge) l.sequences l.place l.all.items
