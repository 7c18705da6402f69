use Rattle.flow_fold_laws.proofs.UnfoldedRuns.{complete_runs_unfold}
use Rattle.flow_fold_laws.proofs.runs.law_folded_runs_unfold.Goals as goal

pub returns-clause-complete : goal.returns-clause-complete
returns-clause-complete c = complete_runs_unfold
