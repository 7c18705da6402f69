use Rattle.std.proofs.Common.{List, subst}
use Rattle.std.proofs.lemmas.List.{take_all}
use Rattle.flow_goal.specs.declared.fold.Fold.{Fold}
use Rattle.flow_plan.proofs.FoldRowLemmas.{AreRowsFor, rows_more, own_rows, shared_rows}
use Rattle.flow_plan.proofs.fold_row.FoldRow.of_folds.Goals as goal

pub loop-fold-preserved : goal.loop-fold-preserved
loop-fold-preserved c = rows_more c.args.folds.now c.loop-fold.fold-index c.loop-fold.rows.items c.push.new.self.items (record { first = 0; middle = 0; end = 0 }) c.new.result
    c.loop-fold-test.true c.in_ok-push.ensures.items c.new.ensures c.loop-fold.invariant

pub returns-clause-own : goal.returns-clause-own
returns-clause-own c = λ q spans. own_rows c.args.folds.now c.loop-fold.rows.items q spans
    (subst (λ (l : List Fold). AreRowsFor l c.loop-fold.rows.items) (take_all c.loop-fold.fold-index c.args.folds.now c.loop-fold-test.false) c.loop-fold.invariant)

pub returns-clause-shared : goal.returns-clause-shared
returns-clause-shared c = λ apart g q distinct spans m. shared_rows c.args.folds.now c.loop-fold.rows.items apart g q distinct spans m
    (subst (λ (l : List Fold). AreRowsFor l c.loop-fold.rows.items) (take_all c.loop-fold.fold-index c.args.folds.now c.loop-fold-test.false) c.loop-fold.invariant)
