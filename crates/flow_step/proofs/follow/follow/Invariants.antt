use Rattle.std.proofs.Common.{length}
use Rattle.flow_step.proofs.GoneLemmas.{Gone}
use Rattle.flow_step.proofs.follow.follow.Given as goal

abbrev pub invariant-loop-rest : goal.invariant-loop-rest
invariant-loop-rest g l = record {
  gone : Gone g.R.Remade.may_make g.R.Remade.grown l.fn.run l.fn.history l.rest l.run;
  lasts : g.R.Asked.can_be_asked l.fn.run → g.R.Asked.can_be_asked l.run;
}

abbrev pub decreases-loop-rest : goal.decreases-loop-rest
decreases-loop-rest g l = length l.rest
