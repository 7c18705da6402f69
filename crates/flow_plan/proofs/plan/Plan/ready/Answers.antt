use Rattle.std.proofs.Common.{arith, sym}
use Rattle.leaf_rows.specs.Leaves.{has_leaf}
use Rattle.flow_plan.specs.declared.table.Rows.TheVariants.{Narrow, Middle, Wide}
use Rattle.flow_plan.proofs.Cuts.{cut_tells}
use Rattle.flow_plan.proofs.Readiness.{kept_in, table_filled}
use Rattle.flow_plan.proofs.plan.Plan.ready.Goals as goal

pub ready-requires : goal.ready-requires
ready-requires c = (
  omega arith,
  (
    omega arith,
    table_filled c.in-Narrow.table c.leaves.result.now (kept_in c.self.inside.rows (Narrow c.in-Narrow.table) c.self.invariant.kept c.self.view_is c.in-Narrow.is)
        c.leaves.ensures.rising c.leaves.ensures.leaves,
  ),
)

pub returns-in-Narrow : goal.returns-in-Narrow
returns-in-Narrow c =
    let table = kept_in c.self.inside.rows (Narrow c.in-Narrow.table) c.self.invariant.kept c.self.view_is c.in-Narrow.is in
    c.ready.ensures c.args.self.now table (sym c.leaves.ensures.leaves) (has_leaf c.args.sides.now.done)
    (cut_tells c.args.self.now c.in-Narrow.table table c.args.sides.now c.cut.result c.requires c.cut.ensures)

pub ready-requires-in-Middle : goal.ready-requires-in-Middle
ready-requires-in-Middle c = (
  omega arith,
  (
    omega arith,
    table_filled c.in-Middle.table c.leaves-in-Middle.result.now (kept_in c.self.inside.rows (Middle c.in-Middle.table) c.self.invariant.kept c.self.view_is c.in-Middle.is)
        c.leaves-in-Middle.ensures.rising c.leaves-in-Middle.ensures.leaves,
  ),
)

pub returns-in-Middle : goal.returns-in-Middle
returns-in-Middle c =
    let table = kept_in c.self.inside.rows (Middle c.in-Middle.table) c.self.invariant.kept c.self.view_is c.in-Middle.is in
    c.ready-in-Middle.ensures c.args.self.now table (sym c.leaves-in-Middle.ensures.leaves) (has_leaf c.args.sides.now.done)
    (cut_tells c.args.self.now c.in-Middle.table table c.args.sides.now c.cut-in-Middle.result c.requires c.cut-in-Middle.ensures)

pub ready-requires-in-Wide : goal.ready-requires-in-Wide
ready-requires-in-Wide c = (
  omega arith,
  (
    omega arith,
    table_filled c.in-Wide.table c.leaves-in-Wide.result.now (kept_in c.self.inside.rows (Wide c.in-Wide.table) c.self.invariant.kept c.self.view_is c.in-Wide.is)
        c.leaves-in-Wide.ensures.rising c.leaves-in-Wide.ensures.leaves,
  ),
)

pub returns-in-Wide : goal.returns-in-Wide
returns-in-Wide c =
    let table = kept_in c.self.inside.rows (Wide c.in-Wide.table) c.self.invariant.kept c.self.view_is c.in-Wide.is in
    c.ready-in-Wide.ensures c.args.self.now table (sym c.leaves-in-Wide.ensures.leaves) (has_leaf c.args.sides.now.done)
    (cut_tells c.args.self.now c.in-Wide.table table c.args.sides.now c.cut-in-Wide.result c.requires c.cut-in-Wide.ensures)
