use Rattle.flow_fold_laws.proofs.FoldedRunsLemmas.{folded_complete_runs_are_traces}
use Rattle.flow_fold_laws.proofs.runs.law_folded_runs_are_traces.Goals as goal

pub returns-clause-complete : goal.returns-clause-complete
returns-clause-complete c = folded_complete_runs_are_traces
