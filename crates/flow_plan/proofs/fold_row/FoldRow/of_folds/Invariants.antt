use Rattle.std.proofs.Common.{take}
use Rattle.flow_plan.proofs.FoldRowLemmas.{AreRowsFor}
use Rattle.flow_plan.proofs.fold_row.FoldRow.of_folds.Given as goal

abbrev pub invariant-loop-fold : goal.invariant-loop-fold
invariant-loop-fold l = AreRowsFor (take l.fold-index l.folds) l.rows.items
