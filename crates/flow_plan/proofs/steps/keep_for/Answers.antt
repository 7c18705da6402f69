use Rattle.std.proofs.Common.{IsTrue}
use Rattle.leaf_rows.specs.Leaves.{has_leaf}
use Rattle.flow_plan.specs.declared.part_row.PartRow.{PartRow}
use Rattle.flow_plan.specs.Parts.{Keeps}
use Rattle.flow_model.proofs.Lists.{each_from_members}
use Rattle.flow_plan.proofs.KeepLemmas.{keeps_beside_none}
use Rattle.flow_plan.proofs.StepRows.{kept_step}
use Rattle.flow_plan.proofs.steps.keep_for.Goals as goal

pub loop-part-preserved : goal.loop-part-preserved
loop-part-preserved g c n =
    kept_step (λ (row : PartRow g.row.W). Keeps c.args.what row (λ x. IsTrue (has_leaf c.args.claims.now x)) n) c.args.parts.now c.loop-part.part-index c.part-item.result
    (has_leaf c.keep_for-leaves.result n) (has_leaf c.loop-part.leaves n) (has_leaf c.args.leaves n) c.loop-part-test.true c.part-item.is
    (c.keep_for-leaves.ensures n) (c.loop-part.invariant n)

pub returns-then-is_empty : goal.returns-then-is_empty
returns-then-is_empty g c = λ n. (
  λ has. (
    has,
    each_from_members (λ row. Keeps c.args.what row (λ x. IsTrue (has_leaf c.args.claims.now x)) n) c.args.parts.now
        (λ row member. keeps_beside_none c.args.what row (λ x. IsTrue (has_leaf c.args.claims.now x)) n (c.is_empty.ensures.0 c.if-is_empty.true)),
  ),
  λ both. both.0,
)
