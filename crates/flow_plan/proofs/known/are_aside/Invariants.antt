use Rattle.std.proofs.Common.{drop}
use Rattle.flow_model.specs.Lists.{Each}
use Rattle.flow_plan.specs.Known.{IsAside}
use Rattle.flow_plan.proofs.known.are_aside.Given as goal

abbrev pub invariant-loop-other : goal.invariant-loop-other
invariant-loop-other g l = Each (IsAside l.done l.so l.leaf) (drop l.other-index l.leaves) → Each (IsAside l.done l.so l.leaf) l.leaves
