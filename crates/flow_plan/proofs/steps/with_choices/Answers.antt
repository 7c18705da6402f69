use Rattle.std.proofs.Common.{List, subst}
use Rattle.std.proofs.lemmas.List.{take_all}
use Rattle.flow_plan.specs.declared.fold_row.FoldRow.{FoldRow}
use Rattle.flow_plan.specs.Rows.{IsRowOf}
use Rattle.flow_plan.specs.Sided.{StandsWith}
use Rattle.flow_plan.proofs.StepRows.{stands_alone, stands_more}
use Rattle.flow_plan.proofs.steps.with_choices.Goals as goal

pub loop-fold-init : goal.loop-fold-init
loop-fold-init c = stands_alone c.args.folds.now c.args.leaf c.new.result c.with-set.result c.new.ensures c.with-set.ensures

pub loop-fold-preserved : goal.loop-fold-preserved
loop-fold-preserved c =
    stands_more c.args.folds.now c.loop-fold.fold-index c.fold-item.result c.args.leaf c.loop-fold.set c.put_in_with.new.set c.loop-fold-test.true c.fold-item.is c.loop-fold.invariant c.put_in_with.ensures

pub returns : goal.returns
returns c =
    subst (λ (rows : List FoldRow). IsRowOf (StandsWith rows c.args.leaf) c.loop-fold.set) (take_all c.loop-fold.fold-index c.args.folds.now c.loop-fold-test.false) c.loop-fold.invariant
