use Rattle.std.proofs.Common.{IsTrue}
use Rattle.leaf_rows.specs.Leaves.{has_leaf}
use Rattle.flow_plan.specs.Parts.{KeepsTogether}
use Rattle.flow_plan.proofs.StepRows.{each_part_more, every_part, not_every_part}
use Rattle.flow_plan.proofs.table.parts_keep_together.Goals as goal

pub loop-part-preserved : goal.loop-part-preserved
loop-part-preserved g c =
    each_part_more (λ row. KeepsTogether row (λ x. IsTrue (has_leaf c.args.leaves.now x))) c.args.parts.now c.loop-part.part-index c.part-item.result
    c.loop-part-test.true c.part-item.is (c.keeps_together.ensures.0 c.if-not-keeps_together.false) c.loop-part.invariant

pub returns : goal.returns
returns g c = every_part _ c.args.parts.now c.loop-part.part-index c.loop-part-test.false c.loop-part.invariant

pub returns-then-not-keeps_together : goal.returns-then-not-keeps_together
returns-then-not-keeps_together g c =
    not_every_part _ c.args.parts.now c.loop-part.part-index c.part-item.result c.keeps_together.result
    c.loop-part-test.true c.part-item.is c.keeps_together.ensures c.if-not-keeps_together.true
