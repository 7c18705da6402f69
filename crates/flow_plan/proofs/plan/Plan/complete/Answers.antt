use Rattle.leaf_rows.specs.Leaves.{has_leaf}
use Rattle.flow_plan.specs.declared.table.Rows.TheVariants.{Narrow, Middle, Wide}
use Rattle.flow_plan.proofs.Cuts.{cut_tells}
use Rattle.flow_plan.proofs.Following.{complete_run}
use Rattle.flow_plan.proofs.Readiness.{kept_in}
use Rattle.flow_plan.proofs.plan.Plan.complete.Goals as goal

pub returns-in-Narrow-clause-finished : goal.returns-in-Narrow-clause-finished
returns-in-Narrow-clause-finished c =
    let table = kept_in c.self.inside.rows (Narrow c.in-Narrow.table) c.self.invariant.kept c.self.view_is c.in-Narrow.is in
    c.complete.ensures c.args.self.now table (has_leaf c.args.sides.now.done)
    (cut_tells c.args.self.now c.in-Narrow.table table c.args.sides.now c.cut.result c.requires c.cut.ensures)

pub returns-in-Narrow-clause-of_run : goal.returns-in-Narrow-clause-of_run
returns-in-Narrow-clause-of_run c =
    let table = kept_in c.self.inside.rows (Narrow c.in-Narrow.table) c.self.invariant.kept c.self.view_is c.in-Narrow.is in
    complete_run c.args.self.now c.args.sides.now c.complete.result
    (c.complete.ensures c.args.self.now table (has_leaf c.args.sides.now.done)
    (cut_tells c.args.self.now c.in-Narrow.table table c.args.sides.now c.cut.result c.requires c.cut.ensures))

pub returns-in-Middle-clause-finished : goal.returns-in-Middle-clause-finished
returns-in-Middle-clause-finished c =
    let table = kept_in c.self.inside.rows (Middle c.in-Middle.table) c.self.invariant.kept c.self.view_is c.in-Middle.is in
    c.complete-in-Middle.ensures c.args.self.now table (has_leaf c.args.sides.now.done)
    (cut_tells c.args.self.now c.in-Middle.table table c.args.sides.now c.cut-in-Middle.result c.requires c.cut-in-Middle.ensures)

pub returns-in-Middle-clause-of_run : goal.returns-in-Middle-clause-of_run
returns-in-Middle-clause-of_run c =
    let table = kept_in c.self.inside.rows (Middle c.in-Middle.table) c.self.invariant.kept c.self.view_is c.in-Middle.is in
    complete_run c.args.self.now c.args.sides.now c.complete-in-Middle.result
    (c.complete-in-Middle.ensures c.args.self.now table (has_leaf c.args.sides.now.done)
    (cut_tells c.args.self.now c.in-Middle.table table c.args.sides.now c.cut-in-Middle.result c.requires c.cut-in-Middle.ensures))

pub returns-in-Wide-clause-finished : goal.returns-in-Wide-clause-finished
returns-in-Wide-clause-finished c =
    let table = kept_in c.self.inside.rows (Wide c.in-Wide.table) c.self.invariant.kept c.self.view_is c.in-Wide.is in
    c.complete-in-Wide.ensures c.args.self.now table (has_leaf c.args.sides.now.done)
    (cut_tells c.args.self.now c.in-Wide.table table c.args.sides.now c.cut-in-Wide.result c.requires c.cut-in-Wide.ensures)

pub returns-in-Wide-clause-of_run : goal.returns-in-Wide-clause-of_run
returns-in-Wide-clause-of_run c =
    let table = kept_in c.self.inside.rows (Wide c.in-Wide.table) c.self.invariant.kept c.self.view_is c.in-Wide.is in
    complete_run c.args.self.now c.args.sides.now c.complete-in-Wide.result
    (c.complete-in-Wide.ensures c.args.self.now table (has_leaf c.args.sides.now.done)
    (cut_tells c.args.self.now c.in-Wide.table table c.args.sides.now c.cut-in-Wide.result c.requires c.cut-in-Wide.ensures))
