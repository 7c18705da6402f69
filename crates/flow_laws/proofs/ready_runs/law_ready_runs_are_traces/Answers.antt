use Rattle.flow_laws.proofs.ReadyRuns.{complete_runs_are_traces}
use Rattle.flow_laws.proofs.ready_runs.law_ready_runs_are_traces.Goals as goal

pub returns-clause-complete : goal.returns-clause-complete
returns-clause-complete c = complete_runs_are_traces
