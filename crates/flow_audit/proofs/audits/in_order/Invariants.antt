use Rattle.flow_audit.proofs.ShareLemmas.{AreFirst}
use Rattle.flow_audit.proofs.audits.in_order.Given as goal

abbrev pub invariant-loop-place : goal.invariant-loop-place
invariant-loop-place g l = AreFirst (g.C.Checker.finds l.checker) l.text l.cuts l.place l.all.items
