use Rattle.flow_plan.proofs.FoldPass.{ClosesWithRest}
use Rattle.flow_plan.proofs.sides.closed_off.Given as goal

abbrev pub invariant-loop-fold : goal.invariant-loop-fold
invariant-loop-fold l = ClosesWithRest l.done l.folds l.fold-index l.closed
