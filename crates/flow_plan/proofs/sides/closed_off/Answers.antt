use Rattle.flow_plan.proofs.FoldPass.{closes_all, closes_more}
use Rattle.flow_plan.proofs.SidesLemmas.{closed_off_by}
use Rattle.flow_plan.proofs.sides.closed_off.Goals as goal

pub loop-fold-preserved : goal.loop-fold-preserved
loop-fold-preserved c = closes_more c.args.done.now c.args.folds.now c.loop-fold.fold-index c.fold-item.result c.met.result c.loop-fold.closed c.close.new.closed
    c.loop-fold-test.true c.fold-item.is (record { left = c.met.ensures.left; right = c.met.ensures.right }) c.close.ensures c.loop-fold.invariant

pub returns : goal.returns
returns c = λ q are n m.
    let (to, from) = closes_all c.args.done.now c.args.folds.now c.loop-fold.fold-index c.loop-fold.closed c.loop-fold-test.false c.loop-fold.invariant n in
    let (over, back) = closed_off_by q c.args.folds.now c.args.done.now are n m in
    (λ h. over (to h), λ h. from (back h))
