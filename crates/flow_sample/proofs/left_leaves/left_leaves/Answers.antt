use Rattle.std.proofs.Common.{◌∙◌, ◌++◌, List, drop, append-nil, ap, sym}
use Rattle.std.proofs.lemmas.List.{drop_all}
use Rattle.flow_goal.specs.declared.node.Node.{Node}
use Rattle.flow_sample.specs.LeftLeaves.{left_read}
use Rattle.flow_sample.proofs.LeftLemmas.{all_taken}
use Rattle.flow_sample.proofs.left_leaves.left_leaves.Goals as goal

pub returns : goal.returns
returns c =
    let walk = c.loop-node.walk in
    let plan = c.args.plan.now in
    let nodes = c.nodes-node-items.result.now in
    sym (append-nil walk.taken.items)
    ∙ ap (λ (l : List Node). walk.taken.items ++ left_read l (drop walk.place plan.leaves) walk.passed) (sym (drop_all c.loop-node.node-index nodes c.loop-node-test.false))
    ∙ c.loop-node.invariant.all ∙ all_taken plan.process nodes plan.leaves c.nodes-node-items.ensures.nodes c.leaves-leaves.ensures.listed
