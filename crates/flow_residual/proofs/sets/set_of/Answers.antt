use Rattle.std.proofs.Common.{◌<◌, get_or, arith}
use Rattle.flow_model.specs.declared.limits.TheConstants.{MOST_LEAVES}
use Rattle.flow_model.proofs.Lists.{each_member}
use Rattle.flow_plan.proofs.PlaceLemmas.{read_member}
use Rattle.flow_residual.proofs.SetLemmas.{set_more}
use Rattle.flow_residual.proofs.sets.set_of.Goals as goal

pub insert-requires : goal.insert-requires
insert-requires c =
    let xs = c.args.leaves.now in
    let small : get_or xs c.loop-leaf.leaf-index 0 < MOST_LEAVES = each_member (λ n. n < MOST_LEAVES) xs c.requires (get_or xs c.loop-leaf.leaf-index 0)
    (read_member xs c.loop-leaf.leaf-index c.loop-leaf-test.true) in
    omega (arith, small)

pub loop-leaf-preserved : goal.loop-leaf-preserved
loop-leaf-preserved c = set_more c.loop-leaf.set c.insert.new.self c.args.leaves.now c.loop-leaf.leaf-index c.loop-leaf-test.true c.insert.ensures c.loop-leaf.invariant
