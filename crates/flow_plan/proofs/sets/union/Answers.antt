use Rattle.std.proofs.Common.{List, subst}
use Rattle.std.proofs.lemmas.List.{take_all}
use Rattle.leaf_rows.specs.declared.leaf_set.LeafSet.{LeafSet}
use Rattle.flow_plan.specs.Rows.{IsRowOf}
use Rattle.flow_plan.specs.Ahead.{IsInSome}
use Rattle.flow_plan.proofs.PartLemmas.{row_more}
use Rattle.flow_plan.proofs.sets.union.Goals as goal

pub loop-row-preserved : goal.loop-row-preserved
loop-row-preserved g c =
    row_more c.args.rows.now c.loop-row.row-index c.loop-row.all c.union_with.new.self c.row-item.result c.loop-row-test.true c.row-item.is c.loop-row.invariant c.union_with.ensures

pub returns : goal.returns
returns g c =
    subst (λ (rows : List (LeafSet g.row.W)). IsRowOf (IsInSome rows) c.loop-row.all) (take_all c.loop-row.row-index c.args.rows.now c.loop-row-test.false) c.loop-row.invariant
