use Rattle.std.proofs.Common.{◌<◌, ◌*◌, ℕ, List, arith, subst, sym}
use Rattle.leaf_rows.specs.Leaves.{has_leaf}
use Rattle.flow_model.specs.Lists.{◌∈◌}
use Rattle.flow_model.proofs.Lists.{each_member}
use Rattle.flow_plan.specs.Orders.{MayComeNext}
use Rattle.flow_plan.specs.Sided.{IsDoneIn}
use Rattle.flow_plan.specs.declared.table.Rows.TheVariants.{Narrow, Middle, Wide}
use Rattle.flow_plan.proofs.Cuts.{cut_row, cut_row_whole, cut_tells}
use Rattle.flow_plan.proofs.Readiness.{kept_in, table_filled}
use Rattle.flow_plan.proofs.plan.Plan.next_row_in.Goals as goal

pub next_row-requires : goal.next_row-requires
next_row-requires g c = (
  omega arith,
  (
    omega arith,
    (
      omega arith,
      table_filled c.in-Narrow.table c.leaves.result.now (kept_in c.self.inside.rows (Narrow c.in-Narrow.table) c.self.invariant.kept c.self.view_is c.in-Narrow.is)
          c.leaves.ensures.rising c.leaves.ensures.leaves,
    ),
  ),
)

pub returns-in-Narrow-clause-cut : goal.returns-in-Narrow-clause-cut
returns-in-Narrow-clause-cut g c =
    let table = kept_in c.self.inside.rows (Narrow c.in-Narrow.table) c.self.invariant.kept c.self.view_is c.in-Narrow.is in
    cut_row (MayComeNext c.args.self.now (IsDoneIn c.args.sides.now)) c.next_row.result c.resized.result c.resized.ensures
    (c.next_row.ensures c.args.self.now table (sym c.leaves.ensures.leaves) (has_leaf c.args.sides.now.done)
    (cut_tells c.args.self.now c.in-Narrow.table table c.args.sides.now c.cut.result c.requires.tell c.cut.ensures))

pub returns-in-Narrow-clause-whole : goal.returns-in-Narrow-clause-whole
returns-in-Narrow-clause-whole g c = λ small.
    let table = kept_in c.self.inside.rows (Narrow c.in-Narrow.table) c.self.invariant.kept c.self.view_is c.in-Narrow.is in
    cut_row_whole (MayComeNext c.args.self.now (IsDoneIn c.args.sides.now)) c.next_row.result c.resized.result c.resized.ensures
    (c.next_row.ensures c.args.self.now table (sym c.leaves.ensures.leaves) (has_leaf c.args.sides.now.done)
    (cut_tells c.args.self.now c.in-Narrow.table table c.args.sides.now c.cut.result c.requires.tell c.cut.ensures))
    (λ x ready. each_member (λ n. n < 64 * g.row.V) c.args.self.now.leaves small x (subst (λ (l : List ℕ). x ∈ l) (sym table.fields.listed) ready.leaf))

pub next_row-requires-in-Middle : goal.next_row-requires-in-Middle
next_row-requires-in-Middle g c = (
  omega arith,
  (
    omega arith,
    (
      omega arith,
      table_filled c.in-Middle.table c.leaves-in-Middle.result.now (kept_in c.self.inside.rows (Middle c.in-Middle.table) c.self.invariant.kept c.self.view_is c.in-Middle.is)
          c.leaves-in-Middle.ensures.rising c.leaves-in-Middle.ensures.leaves,
    ),
  ),
)

pub returns-in-Middle-clause-cut : goal.returns-in-Middle-clause-cut
returns-in-Middle-clause-cut g c =
    let table = kept_in c.self.inside.rows (Middle c.in-Middle.table) c.self.invariant.kept c.self.view_is c.in-Middle.is in
    cut_row (MayComeNext c.args.self.now (IsDoneIn c.args.sides.now)) c.next_row-in-Middle.result c.resized-in-Middle.result c.resized-in-Middle.ensures
    (c.next_row-in-Middle.ensures c.args.self.now table (sym c.leaves-in-Middle.ensures.leaves) (has_leaf c.args.sides.now.done)
    (cut_tells c.args.self.now c.in-Middle.table table c.args.sides.now c.cut-in-Middle.result c.requires.tell c.cut-in-Middle.ensures))

pub returns-in-Middle-clause-whole : goal.returns-in-Middle-clause-whole
returns-in-Middle-clause-whole g c = λ small.
    let table = kept_in c.self.inside.rows (Middle c.in-Middle.table) c.self.invariant.kept c.self.view_is c.in-Middle.is in
    cut_row_whole (MayComeNext c.args.self.now (IsDoneIn c.args.sides.now)) c.next_row-in-Middle.result c.resized-in-Middle.result c.resized-in-Middle.ensures
    (c.next_row-in-Middle.ensures c.args.self.now table (sym c.leaves-in-Middle.ensures.leaves) (has_leaf c.args.sides.now.done)
    (cut_tells c.args.self.now c.in-Middle.table table c.args.sides.now c.cut-in-Middle.result c.requires.tell c.cut-in-Middle.ensures))
    (λ x ready. each_member (λ n. n < 64 * g.row.V) c.args.self.now.leaves small x (subst (λ (l : List ℕ). x ∈ l) (sym table.fields.listed) ready.leaf))

pub next_row-requires-in-Wide : goal.next_row-requires-in-Wide
next_row-requires-in-Wide g c = (
  omega arith,
  (
    omega arith,
    (
      omega arith,
      table_filled c.in-Wide.table c.leaves-in-Wide.result.now (kept_in c.self.inside.rows (Wide c.in-Wide.table) c.self.invariant.kept c.self.view_is c.in-Wide.is)
          c.leaves-in-Wide.ensures.rising c.leaves-in-Wide.ensures.leaves,
    ),
  ),
)

pub returns-in-Wide-clause-cut : goal.returns-in-Wide-clause-cut
returns-in-Wide-clause-cut g c =
    let table = kept_in c.self.inside.rows (Wide c.in-Wide.table) c.self.invariant.kept c.self.view_is c.in-Wide.is in
    cut_row (MayComeNext c.args.self.now (IsDoneIn c.args.sides.now)) c.next_row-in-Wide.result c.resized-in-Wide.result c.resized-in-Wide.ensures
    (c.next_row-in-Wide.ensures c.args.self.now table (sym c.leaves-in-Wide.ensures.leaves) (has_leaf c.args.sides.now.done)
    (cut_tells c.args.self.now c.in-Wide.table table c.args.sides.now c.cut-in-Wide.result c.requires.tell c.cut-in-Wide.ensures))

pub returns-in-Wide-clause-whole : goal.returns-in-Wide-clause-whole
returns-in-Wide-clause-whole g c = λ small.
    let table = kept_in c.self.inside.rows (Wide c.in-Wide.table) c.self.invariant.kept c.self.view_is c.in-Wide.is in
    cut_row_whole (MayComeNext c.args.self.now (IsDoneIn c.args.sides.now)) c.next_row-in-Wide.result c.resized-in-Wide.result c.resized-in-Wide.ensures
    (c.next_row-in-Wide.ensures c.args.self.now table (sym c.leaves-in-Wide.ensures.leaves) (has_leaf c.args.sides.now.done)
    (cut_tells c.args.self.now c.in-Wide.table table c.args.sides.now c.cut-in-Wide.result c.requires.tell c.cut-in-Wide.ensures))
    (λ x ready. each_member (λ n. n < 64 * g.row.V) c.args.self.now.leaves small x (subst (λ (l : List ℕ). x ∈ l) (sym table.fields.listed) ready.leaf))
