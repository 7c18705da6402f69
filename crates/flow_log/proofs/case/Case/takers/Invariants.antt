use Rattle.flow_log.specs.Case.{fitted_of}
use Rattle.flow_log.specs.Search.{MayFollow}
use Rattle.flow_log.proofs.CaseLemmas.{AreAsked}
use Rattle.flow_log.proofs.case.Case.takers.Given as goal

abbrev pub invariant-loop-place : goal.invariant-loop-place
invariant-loop-place g l = AreAsked (MayFollow l.done l.leaf) (fitted_of l.self).options l.options l.place l.takers
