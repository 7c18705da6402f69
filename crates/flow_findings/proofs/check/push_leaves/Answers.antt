use Rattle.flow_findings.proofs.CheckLemmas.{one_more}
use Rattle.flow_findings.proofs.check.push_leaves.Goals as goal

pub loop-leaf-preserved : goal.loop-leaf-preserved
loop-leaf-preserved c =
    one_more c.args.workflow.now c.loop-leaf.leaf _ c.loop-leaf.text.items _ c.loop-leaf.invariant c.in_ok-push_leaf.ensures
