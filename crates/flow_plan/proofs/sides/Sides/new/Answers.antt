use Rattle.flow_plan.proofs.FoldPass.{passes_more, passes_all}
use Rattle.flow_plan.proofs.SidesLemmas.{sides_are}
use Rattle.flow_plan.proofs.sides.Sides.new.Goals as goal

pub loop-fold-preserved : goal.loop-fold-preserved
loop-fold-preserved c = passes_more c.args.done.now c.args.folds.now c.loop-fold.fold-index c.fold-item.result _ c.loop-fold.sides c.take.new.self
    c.loop-fold-test.true c.fold-item.is c.loop-fold.invariant c.take.ensures

pub returns : goal.returns
returns c = λ q are folded distinct. sides_are c.args.folds.now c.args.done.now c.args.banned.now c.new.result c.new.ensures c.loop-fold.sides
    (passes_all c.args.done.now c.args.folds.now c.loop-fold.fold-index _ c.loop-fold.sides c.loop-fold-test.false c.loop-fold.invariant)
    q are folded distinct c.union_with.new.self c.union_with.ensures
