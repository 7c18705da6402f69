use Rattle.flow_view.specs.Arrows.{arrow}
use Rattle.flow_view.proofs.ToldLemmas.{from_more, from_all}
use Rattle.flow_view.proofs.arrows.Arrows.put_between.Goals as goal

pub returns-then-self : goal.returns-then-self
returns-then-self c =
    from_all (arrow c.args.rule) c.args.from.now c.args.to.now c.loop-leaf.leaf-index c.args.self.now c.loop-leaf.self c.if-self.true c.loop-leaf.invariant

pub loop-leaf-preserved : goal.loop-leaf-preserved
loop-leaf-preserved c =
    from_more (arrow c.args.rule) c.args.from.now c.args.to.now c.loop-leaf.leaf-index c.args.self.now c.loop-leaf.self c.put_each.new.self c.loop-leaf-test.true
    c.loop-leaf.invariant c.in_ok-put_each.ensures
