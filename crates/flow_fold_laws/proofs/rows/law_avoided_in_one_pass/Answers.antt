use Rattle.flow_fold_laws.proofs.FoldedAvoid.{avoided_in_one_pass}
use Rattle.flow_fold_laws.proofs.rows.law_avoided_in_one_pass.Goals as goal

pub returns : goal.returns
returns c = avoided_in_one_pass
