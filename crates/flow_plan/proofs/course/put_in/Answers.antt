use Rattle.std.proofs.Common.{◌+◌, subst, sym, take}
use Rattle.leaf_rows.specs.declared.leaf_set.LeafSet.{LeafSet}
use Rattle.flow_plan.proofs.CourseLemmas.{HoldsBoth, none_put, one_put}
use Rattle.flow_plan.proofs.course.put_in.Goals.{then-leaf, else-leaf}
use Rattle.flow_plan.proofs.course.put_in.Goals as goal

pub loop-leaf-preserved : goal.loop-leaf-preserved
loop-leaf-preserved g c =
    let leaves = c.args.leaves.now in
    let i = c.loop-leaf.leaf-index in
    elim c.if-leaf.branch [
      | then-leaf w ↦ subst (λ (set : LeafSet g.row.W). HoldsBoth c.args.set.now (take (i + 1) leaves) set) (sym w.set-is)
          (one_put leaves i c.args.set.now c.loop-leaf.set w.insert.new.self c.loop-leaf-test.true w.insert.ensures c.loop-leaf.invariant)
      | else-leaf w ↦ subst (λ (set : LeafSet g.row.W). HoldsBoth c.args.set.now (take (i + 1) leaves) set) (sym w.set-is)
          (none_put leaves i c.args.set.now c.loop-leaf.set c.loop-leaf-test.true w.if-leaf.false c.loop-leaf.invariant)
    ]
