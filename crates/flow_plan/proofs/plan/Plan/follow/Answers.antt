use Rattle.std.proofs.Common.{arith, sym}
use Rattle.flow_plan.specs.declared.table.Rows.TheVariants.{Narrow, Middle, Wide}
use Rattle.flow_plan.proofs.Readiness.{kept_in, table_filled}
use Rattle.flow_plan.proofs.plan.Plan.follow.Goals as goal

pub follow-requires : goal.follow-requires
follow-requires c =
    let table = kept_in c.self.inside.rows (Narrow c.in-Narrow.table) c.self.invariant.kept c.self.view_is c.in-Narrow.is in (
      omega arith,
      (
        omega arith,
        (
          table_filled c.in-Narrow.table c.leaves.result.now table c.leaves.ensures.rising c.leaves.ensures.leaves,
          (c.args.self.now, table, sym c.leaves.ensures.leaves, c.requires),
        ),
      ),
    )

pub follow-requires-in-Middle : goal.follow-requires-in-Middle
follow-requires-in-Middle c =
    let table = kept_in c.self.inside.rows (Middle c.in-Middle.table) c.self.invariant.kept c.self.view_is c.in-Middle.is in (
      omega arith,
      (
        omega arith,
        (
          table_filled c.in-Middle.table c.leaves-in-Middle.result.now table c.leaves-in-Middle.ensures.rising c.leaves-in-Middle.ensures.leaves,
          (c.args.self.now, table, sym c.leaves-in-Middle.ensures.leaves, c.requires),
        ),
      ),
    )

pub follow-requires-in-Wide : goal.follow-requires-in-Wide
follow-requires-in-Wide c =
    let table = kept_in c.self.inside.rows (Wide c.in-Wide.table) c.self.invariant.kept c.self.view_is c.in-Wide.is in (
      omega arith,
      (
        omega arith,
        (
          table_filled c.in-Wide.table c.leaves-in-Wide.result.now table c.leaves-in-Wide.ensures.rising c.leaves-in-Wide.ensures.leaves,
          (c.args.self.now, table, sym c.leaves-in-Wide.ensures.leaves, c.requires),
        ),
      ),
    )
