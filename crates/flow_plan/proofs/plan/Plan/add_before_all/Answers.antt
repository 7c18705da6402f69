use Rattle.flow_plan.specs.declared.table.Rows.TheVariants.{Narrow, Middle, Wide}
use Rattle.flow_plan.proofs.Readiness.{kept_in}
use Rattle.flow_plan.proofs.plan.Plan.add_before_all.Goals as goal

pub returns-in-Narrow : goal.returns-in-Narrow
returns-in-Narrow g c = c.add_before_all.ensures c.args.self.now (kept_in c.self.inside.rows (Narrow c.in-Narrow.table) c.self.invariant.kept c.self.view_is c.in-Narrow.is)

pub returns-in-Middle : goal.returns-in-Middle
returns-in-Middle g c = c.add_before_all-in-Middle.ensures c.args.self.now (kept_in c.self.inside.rows (Middle c.in-Middle.table) c.self.invariant.kept c.self.view_is c.in-Middle.is)

pub returns-in-Wide : goal.returns-in-Wide
returns-in-Wide g c = c.add_before_all-in-Wide.ensures c.args.self.now (kept_in c.self.inside.rows (Wide c.in-Wide.table) c.self.invariant.kept c.self.view_is c.in-Wide.is)
