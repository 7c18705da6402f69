use Rattle.flow_model.specs.Lists.{◌∈◌}
use Rattle.flow_run_why_cli.proofs.Queries.{names_used}
use Rattle.flow_run_why_cli.proofs.query.verify_workflow.Goals as goal

pub rule_of-requires : goal.rule_of-requires
rule_of-requires c = names_used (λ n. n ∈ c.args.workflow.now.events) c.args.query.now c.in-Holds.property c.in-Holds.is c.requires
