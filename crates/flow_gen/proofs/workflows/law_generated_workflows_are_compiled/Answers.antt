use Rattle.flow_gen.proofs.Limits.{compiling_is_not_refused, compiling_parts_is_not_refused}
use Rattle.flow_gen.proofs.workflows.law_generated_workflows_are_compiled.Goals as goal

pub returns : goal.returns
returns c = record { whole = compiling_is_not_refused; parts = compiling_parts_is_not_refused }
