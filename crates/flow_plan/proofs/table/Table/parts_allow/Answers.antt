use Rattle.flow_plan.specs.Parts.{PartAllows}
use Rattle.flow_model.proofs.Lists.{each_member}
use Rattle.flow_plan.proofs.table.Table.parts_allow.Goals as goal

pub returns-in-Some-clause-no : goal.returns-in-Some-clause-no
returns-in-Some-clause-no g c = λ all.
    absurd (c.in-Some.ensures.some.1 (each_member (λ row. PartAllows row c.args.sides.now c.args.leaf) c.args.self.now.parts.items all c.in-Some.field-0.now c.in-Some.ensures.some.0))

pub returns-in-None-clause-yes : goal.returns-in-None-clause-yes
returns-in-None-clause-yes g c = λ yes. c.in-None.ensures.none
