use Rattle.std.proofs.Common.{[]}
use Rattle.flow_record.specs.Journal.{leaf_line}
use Rattle.flow_record.proofs.PieceLemmas.{flat_more, flat_all}
use Rattle.flow_record.proofs.journal.print_journal.Goals as goal

pub loop-leaf-preserved : goal.loop-leaf-preserved
loop-leaf-preserved c =
    flat_more (leaf_line c.args.workflow.now) c.args.leaves.now c.loop-leaf.leaf-index 0 [] c.loop-leaf.text.items c.push_leaf_line.new.text.items
    c.loop-leaf-test.true c.loop-leaf.invariant c.in_ok-push_leaf_line.ensures.ok

pub returns : goal.returns
returns c = flat_all (leaf_line c.args.workflow.now) c.args.leaves.now c.loop-leaf.leaf-index [] c.loop-leaf.text.items c.loop-leaf-test.false c.loop-leaf.invariant
