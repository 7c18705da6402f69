use Rattle.flow_gen.proofs.Consistent.{leaves_are_good_traces, workflows_are_consistent}
use Rattle.flow_gen.proofs.workflows.law_generated_workflows_are_consistent.Goals as goal

pub returns : goal.returns
returns c = record { good_traces = leaves_are_good_traces; consistent = workflows_are_consistent }
