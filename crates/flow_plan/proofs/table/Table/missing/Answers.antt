use Rattle.flow_plan.proofs.StepRows.{waits_in}
use Rattle.flow_plan.proofs.table.Table.missing.Goals as goal

pub returns-in-Some-clause-some : goal.returns-in-Some-clause-some
returns-in-Some-clause-some g c =
    waits_in c.args.self.now.parts.items c.args.sides.now c.args.leaf c.in-Some.part.now c.in-Some.ensures.some.0 c.in-Some.ensures.some.1 c.missing.result c.missing.ensures.some
