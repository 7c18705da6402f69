use Rattle.flow_workflow.specs.Definition.{schema_of}
use Rattle.flow_lint.specs.Constraints.{constraint_at}
use Rattle.flow_lint.proofs.Told.{at_number}
use Rattle.flow_lint.proofs.constraints.standing_of.Goals as goal

pub returns-in-Ok : goal.returns-in-Ok
returns-in-Ok c =
    let w = schema_of c.args.workflow.now in
    let number = c.args.number in
    c.of-standing.ensures w number (c.in-Ok.ensures.within (constraint_at w number) (at_number w number c.requires)) c.in-Ok.ensures.told

pub returns-in-Err : goal.returns-in-Err
returns-in-Err c =
    let w = schema_of c.args.workflow.now in
    let number = c.args.number in
    c.of_refused.ensures w number (c.in-Err.ensures.refused (constraint_at w number) (at_number w number c.requires))
