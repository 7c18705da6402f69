use Rattle.flow_fold_laws.proofs.FoldedSettled.{finished_by_settled, turns_by_settled}
use Rattle.flow_fold_laws.proofs.FoldedByRows.{ready_by_rows}
use Rattle.flow_fold_laws.proofs.rows.law_folded_rows_tell_readiness.Goals as goal

pub returns-clause-finished : goal.returns-clause-finished
returns-clause-finished c = finished_by_settled

pub returns-clause-turns : goal.returns-clause-turns
returns-clause-turns c = turns_by_settled

pub returns-clause-ready : goal.returns-clause-ready
returns-clause-ready c = ready_by_rows
