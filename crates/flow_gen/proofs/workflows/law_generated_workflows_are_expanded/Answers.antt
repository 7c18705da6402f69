use Rattle.flow_gen.proofs.Expanded.{workflows_are_expanded, expansions_are_not_refused}
use Rattle.flow_gen.proofs.workflows.law_generated_workflows_are_expanded.Goals as goal

pub returns : goal.returns
returns c = record { expanded = workflows_are_expanded; not_refused = expansions_are_not_refused }
