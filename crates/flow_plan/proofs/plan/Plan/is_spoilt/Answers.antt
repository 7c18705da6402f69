use Rattle.flow_plan.specs.declared.table.Rows.TheVariants.{Narrow, Middle, Wide}
use Rattle.flow_plan.proofs.Cuts.{some_by_cut}
use Rattle.flow_plan.proofs.Readiness.{kept_in}
use Rattle.flow_plan.proofs.plan.Plan.is_spoilt.Goals as goal

pub returns-in-Narrow : goal.returns-in-Narrow
returns-in-Narrow c = λ done banned are.
    let table = kept_in c.self.inside.rows (Narrow c.in-Narrow.table) c.self.invariant.kept c.self.view_is c.in-Narrow.is in
    let (to, from) = some_by_cut c.args.self.now c.in-Narrow.table table c.args.sides.now.spoilt c.resized.result c.resized.ensures c.has_some.result
    (c.has_some.ensures c.args.self.now table) in (λ yes. are.spoilt.0 (to yes), λ never. from (are.spoilt.1 never))

pub returns-in-Middle : goal.returns-in-Middle
returns-in-Middle c = λ done banned are.
    let table = kept_in c.self.inside.rows (Middle c.in-Middle.table) c.self.invariant.kept c.self.view_is c.in-Middle.is in
    let (to, from) = some_by_cut c.args.self.now c.in-Middle.table table c.args.sides.now.spoilt c.resized-in-Middle.result c.resized-in-Middle.ensures c.has_some-in-Middle.result
    (c.has_some-in-Middle.ensures c.args.self.now table) in (λ yes. are.spoilt.0 (to yes), λ never. from (are.spoilt.1 never))

pub returns-in-Wide : goal.returns-in-Wide
returns-in-Wide c = λ done banned are.
    let table = kept_in c.self.inside.rows (Wide c.in-Wide.table) c.self.invariant.kept c.self.view_is c.in-Wide.is in
    let (to, from) = some_by_cut c.args.self.now c.in-Wide.table table c.args.sides.now.spoilt c.resized-in-Wide.result c.resized-in-Wide.ensures c.has_some-in-Wide.result
    (c.has_some-in-Wide.ensures c.args.self.now table) in (λ yes. are.spoilt.0 (to yes), λ never. from (are.spoilt.1 never))
