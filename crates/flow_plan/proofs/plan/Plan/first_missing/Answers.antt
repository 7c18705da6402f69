use Rattle.std.proofs.Common.{arith, sym}
use Rattle.leaf_rows.specs.Leaves.{has_leaf}
use Rattle.flow_plan.specs.declared.table.Rows.TheVariants.{Narrow, Middle, Wide}
use Rattle.flow_plan.proofs.Cuts.{cut_tells}
use Rattle.flow_plan.proofs.Readiness.{kept_in, table_filled}
use Rattle.flow_plan.proofs.plan.Plan.first_missing.Goals as goal

pub first_missing-requires : goal.first_missing-requires
first_missing-requires c = (
  omega arith,
  (
    omega arith,
    table_filled c.in-Narrow.table c.leaves.result.now (kept_in c.self.inside.rows (Narrow c.in-Narrow.table) c.self.invariant.kept c.self.view_is c.in-Narrow.is)
        c.leaves.ensures.rising c.leaves.ensures.leaves,
  ),
)

pub returns-in-Narrow-clause-settled : goal.returns-in-Narrow-clause-settled
returns-in-Narrow-clause-settled c =
    let table = kept_in c.self.inside.rows (Narrow c.in-Narrow.table) c.self.invariant.kept c.self.view_is c.in-Narrow.is in
    c.first_missing.ensures.settled c.args.self.now table (sym c.leaves.ensures.leaves) (has_leaf c.args.sides.now.done)
    (cut_tells c.args.self.now c.in-Narrow.table table c.args.sides.now c.cut.result c.requires c.cut.ensures)

pub first_missing-requires-in-Middle : goal.first_missing-requires-in-Middle
first_missing-requires-in-Middle c = (
  omega arith,
  (
    omega arith,
    table_filled c.in-Middle.table c.leaves-in-Middle.result.now (kept_in c.self.inside.rows (Middle c.in-Middle.table) c.self.invariant.kept c.self.view_is c.in-Middle.is)
        c.leaves-in-Middle.ensures.rising c.leaves-in-Middle.ensures.leaves,
  ),
)

pub returns-in-Middle-clause-settled : goal.returns-in-Middle-clause-settled
returns-in-Middle-clause-settled c =
    let table = kept_in c.self.inside.rows (Middle c.in-Middle.table) c.self.invariant.kept c.self.view_is c.in-Middle.is in
    c.first_missing-in-Middle.ensures.settled c.args.self.now table (sym c.leaves-in-Middle.ensures.leaves) (has_leaf c.args.sides.now.done)
    (cut_tells c.args.self.now c.in-Middle.table table c.args.sides.now c.cut-in-Middle.result c.requires c.cut-in-Middle.ensures)

pub first_missing-requires-in-Wide : goal.first_missing-requires-in-Wide
first_missing-requires-in-Wide c = (
  omega arith,
  (
    omega arith,
    table_filled c.in-Wide.table c.leaves-in-Wide.result.now (kept_in c.self.inside.rows (Wide c.in-Wide.table) c.self.invariant.kept c.self.view_is c.in-Wide.is)
        c.leaves-in-Wide.ensures.rising c.leaves-in-Wide.ensures.leaves,
  ),
)

pub returns-in-Wide-clause-settled : goal.returns-in-Wide-clause-settled
returns-in-Wide-clause-settled c =
    let table = kept_in c.self.inside.rows (Wide c.in-Wide.table) c.self.invariant.kept c.self.view_is c.in-Wide.is in
    c.first_missing-in-Wide.ensures.settled c.args.self.now table (sym c.leaves-in-Wide.ensures.leaves) (has_leaf c.args.sides.now.done)
    (cut_tells c.args.self.now c.in-Wide.table table c.args.sides.now c.cut-in-Wide.result c.requires c.cut-in-Wide.ensures)
