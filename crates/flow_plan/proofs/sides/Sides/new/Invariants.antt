use Rattle.std.proofs.Common.{drop}
use Rattle.flow_plan.specs.declared.sides.Sides.{Sides}
use Rattle.flow_plan.proofs.FoldPass.{Passes}
use Rattle.flow_plan.proofs.sides.Sides.new.Given as goal

-- what the rest of the choices leads to, all of them lead to from the first
abbrev pub invariant-loop-fold : goal.invariant-loop-fold
invariant-loop-fold l = (end : Sides) → Passes l.done (drop l.fold-index l.folds) l.sides end → Passes l.done l.folds l.initial.sides end
