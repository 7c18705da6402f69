use Rattle.flow_fault.proofs.keywords.is_keyword_near.Goals as goal

pub returns-in-Constraint : goal.returns-in-Constraint
returns-in-Constraint c = rw c.in-Constraint.is c.is_one_near-in-Constraint.ensures

pub returns-in-Rule : goal.returns-in-Rule
returns-in-Rule c = rw c.in-Rule.is c.is_one_near-in-Rule.ensures
