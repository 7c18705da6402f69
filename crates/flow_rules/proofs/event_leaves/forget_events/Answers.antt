use Rattle.flow_rules.specs.EventLeaves.{leaf_in}
use Rattle.flow_rules.proofs.LeafLemmas.{forgotten_more}
use Rattle.flow_rules.proofs.event_leaves.forget_events.Goals as goal

pub loop-leaf-preserved : goal.loop-leaf-preserved
loop-leaf-preserved c = λ q.
    forgotten_more c.args.tree.now.labels c.args.leaves.now c.loop-leaf.leaf-index q c.event.result c.loop-leaf-test.true c.event.ensures
    (leaf_in c.args.events.now q) _ _ (c.loop-leaf.invariant q) (c.forget.ensures q)
