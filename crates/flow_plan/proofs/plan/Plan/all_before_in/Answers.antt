use Rattle.std.proofs.Common.{arith, sym}
use Rattle.flow_plan.specs.declared.table.Rows.TheVariants.{Narrow, Middle, Wide}
use Rattle.flow_plan.proofs.Cuts.{cut_row, cut_row_whole}
use Rattle.flow_plan.proofs.Readiness.{Before, before_small, kept_in, table_filled}
use Rattle.flow_plan.proofs.plan.Plan.all_before_in.Goals as goal

pub all_before-requires : goal.all_before-requires
all_before-requires g c =
    (omega arith, (omega arith, table_filled c.in-Narrow.table c.leaves.result.now (kept_in c.self.inside.rows (Narrow c.in-Narrow.table) c.self.invariant.kept c.self.view_is c.in-Narrow.is) c.leaves.ensures.rising c.leaves.ensures.leaves))

pub returns-in-Narrow-clause-cut : goal.returns-in-Narrow-clause-cut
returns-in-Narrow-clause-cut g c =
    let table = kept_in c.self.inside.rows (Narrow c.in-Narrow.table) c.self.invariant.kept c.self.view_is c.in-Narrow.is in
    cut_row (λ x. Before c.args.self.now x c.args.leaf) c.all_before.result c.resized.result c.resized.ensures
    (c.all_before.ensures c.args.self.now table (sym c.leaves.ensures.leaves))

pub returns-in-Narrow-clause-whole : goal.returns-in-Narrow-clause-whole
returns-in-Narrow-clause-whole g c = λ small.
    let table = kept_in c.self.inside.rows (Narrow c.in-Narrow.table) c.self.invariant.kept c.self.view_is c.in-Narrow.is in
    cut_row_whole (λ x. Before c.args.self.now x c.args.leaf) c.all_before.result c.resized.result c.resized.ensures
    (c.all_before.ensures c.args.self.now table (sym c.leaves.ensures.leaves))
    (λ x direct. before_small c.args.self.now table.fields.ordered table.fields.listed _ small x c.args.leaf direct)

pub all_before-requires-in-Middle : goal.all_before-requires-in-Middle
all_before-requires-in-Middle g c =
    (omega arith, (omega arith, table_filled c.in-Middle.table c.leaves-in-Middle.result.now (kept_in c.self.inside.rows (Middle c.in-Middle.table) c.self.invariant.kept c.self.view_is c.in-Middle.is) c.leaves-in-Middle.ensures.rising c.leaves-in-Middle.ensures.leaves))

pub returns-in-Middle-clause-cut : goal.returns-in-Middle-clause-cut
returns-in-Middle-clause-cut g c =
    let table = kept_in c.self.inside.rows (Middle c.in-Middle.table) c.self.invariant.kept c.self.view_is c.in-Middle.is in
    cut_row (λ x. Before c.args.self.now x c.args.leaf) c.all_before-in-Middle.result c.resized-in-Middle.result c.resized-in-Middle.ensures
    (c.all_before-in-Middle.ensures c.args.self.now table (sym c.leaves-in-Middle.ensures.leaves))

pub returns-in-Middle-clause-whole : goal.returns-in-Middle-clause-whole
returns-in-Middle-clause-whole g c = λ small.
    let table = kept_in c.self.inside.rows (Middle c.in-Middle.table) c.self.invariant.kept c.self.view_is c.in-Middle.is in
    cut_row_whole (λ x. Before c.args.self.now x c.args.leaf) c.all_before-in-Middle.result c.resized-in-Middle.result c.resized-in-Middle.ensures
    (c.all_before-in-Middle.ensures c.args.self.now table (sym c.leaves-in-Middle.ensures.leaves))
    (λ x direct. before_small c.args.self.now table.fields.ordered table.fields.listed _ small x c.args.leaf direct)

pub all_before-requires-in-Wide : goal.all_before-requires-in-Wide
all_before-requires-in-Wide g c =
    (omega arith, (omega arith, table_filled c.in-Wide.table c.leaves-in-Wide.result.now (kept_in c.self.inside.rows (Wide c.in-Wide.table) c.self.invariant.kept c.self.view_is c.in-Wide.is) c.leaves-in-Wide.ensures.rising c.leaves-in-Wide.ensures.leaves))

pub returns-in-Wide-clause-cut : goal.returns-in-Wide-clause-cut
returns-in-Wide-clause-cut g c =
    let table = kept_in c.self.inside.rows (Wide c.in-Wide.table) c.self.invariant.kept c.self.view_is c.in-Wide.is in
    cut_row (λ x. Before c.args.self.now x c.args.leaf) c.all_before-in-Wide.result c.resized-in-Wide.result c.resized-in-Wide.ensures
    (c.all_before-in-Wide.ensures c.args.self.now table (sym c.leaves-in-Wide.ensures.leaves))

pub returns-in-Wide-clause-whole : goal.returns-in-Wide-clause-whole
returns-in-Wide-clause-whole g c = λ small.
    let table = kept_in c.self.inside.rows (Wide c.in-Wide.table) c.self.invariant.kept c.self.view_is c.in-Wide.is in
    cut_row_whole (λ x. Before c.args.self.now x c.args.leaf) c.all_before-in-Wide.result c.resized-in-Wide.result c.resized-in-Wide.ensures
    (c.all_before-in-Wide.ensures c.args.self.now table (sym c.leaves-in-Wide.ensures.leaves))
    (λ x direct. before_small c.args.self.now table.fields.ordered table.fields.listed _ small x c.args.leaf direct)
