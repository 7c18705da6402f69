use Rattle.std.proofs.Common.{take}
use Rattle.flow_plan.specs.Rows.{IsRowOf}
use Rattle.flow_plan.specs.Sided.{StandsWith}
use Rattle.flow_plan.proofs.steps.with_choices.Given as goal

abbrev pub invariant-loop-fold : goal.invariant-loop-fold
invariant-loop-fold l = IsRowOf (StandsWith (take l.fold-index l.folds) l.leaf) l.set
