use Rattle.std.proofs.Common.{arith}
use Rattle.flow_goal.proofs.FoldsLemmas.{named_everywhere}
use Rattle.flow_goal.proofs.folds.named_leaves.Goals as goal

pub returns : goal.returns
returns c =
    named_everywhere c.args.tree.now.labels c.args.events.now c.loop-leaf.named.items c.loop-leaf.leaf c.loop-leaf.invariant.0 (omega (arith, c.leaves-leaf-end.ensures.count))
    c.loop-leaf.invariant.1
