use Rattle.flow_workflow.specs.Definition.{schema_of}
use Rattle.flow_workflow.specs.Rule.{rule_of}
use Rattle.flow_policy_lint.proofs.met.how_met.Goals as goal

pub returns-in-Err : goal.returns-in-Err
returns-in-Err c = c.of_refused.ensures (schema_of c.args.workflow.now) (rule_of c.args.property.now) c.in-Err.ensures.refused
