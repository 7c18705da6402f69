use Rattle.flow_plan.proofs.part_row.Reach.within.Goals as goal

pub returns-clause-reaches : goal.returns-clause-reaches
returns-clause-reaches g c = λ ns rows reaches. c.at.ensures.reaches ns rows
