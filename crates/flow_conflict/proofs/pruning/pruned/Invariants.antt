use Rattle.std.proofs.Common.{drop}
use Rattle.flow_conflict.proofs.LeavingOut.{IsPruned}
use Rattle.flow_conflict.proofs.pruning.pruned.Given as goal

abbrev pub invariant-loop-index : goal.invariant-loop-index
invariant-loop-index g l =
    let bound = g.J.Judge in
    IsPruned (bound.is_met l.judge) (bound.is_within l.judge) (bound.size l.judge) l.members.items l.undecided.items (drop l.index l.candidates)
