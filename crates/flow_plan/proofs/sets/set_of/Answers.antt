use Rattle.flow_plan.proofs.PartLemmas.{leaf_more}
use Rattle.flow_plan.proofs.sets.set_of.Goals as goal

pub loop-leaf-preserved : goal.loop-leaf-preserved
loop-leaf-preserved g c = leaf_more c.args.leaves.now c.loop-leaf.leaf-index c.loop-leaf.set c.insert.new.self c.loop-leaf-test.true c.loop-leaf.invariant c.insert.ensures
