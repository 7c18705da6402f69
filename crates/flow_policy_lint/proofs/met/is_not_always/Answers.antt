use Rattle.flow_workflow.specs.Definition.{schema_of}
use Rattle.flow_workflow.specs.Rule.{rule_of}
use Rattle.flow_policy_lint.proofs.met.is_not_always.Goals as goal

pub returns : goal.returns
returns c = c.is_not_always.ensures (schema_of c.args.workflow.now) (rule_of c.args.property.now) c.in_ok-how_met.ensures
