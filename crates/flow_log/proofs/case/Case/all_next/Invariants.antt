use Rattle.flow_log.specs.Case.{fitted_of}
use Rattle.flow_log.proofs.CaseLemmas.{HasNext}
use Rattle.flow_log.proofs.case.Case.all_next.Given as goal

abbrev pub invariant-loop-place : goal.invariant-loop-place
invariant-loop-place g l = HasNext (fitted_of l.self).options l.options l.done l.place l.next
