use Rattle.flow_fold_laws.proofs.AvoidingTraces.{executions_avoid}
use Rattle.flow_fold_laws.proofs.avoiding.law_folded_executions_avoid.Goals as goal

pub returns : goal.returns
returns c = executions_avoid
