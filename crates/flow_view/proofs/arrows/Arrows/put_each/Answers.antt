use Rattle.flow_view.specs.Arrows.{arrow}
use Rattle.flow_view.proofs.ToldLemmas.{to_more}
use Rattle.flow_view.proofs.arrows.Arrows.put_each.Goals as goal

pub loop-leaf-preserved : goal.loop-leaf-preserved
loop-leaf-preserved c =
    to_more (arrow c.args.rule) c.args.from c.args.to.now c.loop-leaf.leaf-index c.args.self.now c.loop-leaf.self c.put.new.self c.loop-leaf-test.true
    c.loop-leaf.invariant c.in_ok-put.ensures
