use Rattle.flow_model.specs.Lists.{Each}
use Rattle.flow_reason.specs.Isolated.{IsLeftOfPart}
use Rattle.flow_reason.proofs.isolated.open_leaves.Given as goal

abbrev pub invariant-loop-other : goal.invariant-loop-other
invariant-loop-other l = Each (IsLeftOfPart l.core l.leaf) l.others.items
