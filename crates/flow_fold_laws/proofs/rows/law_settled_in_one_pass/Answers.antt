use Rattle.flow_fold_laws.proofs.FoldedPass.{settled_in_one_pass}
use Rattle.flow_fold_laws.proofs.rows.law_settled_in_one_pass.Goals as goal

pub returns : goal.returns
returns c = settled_in_one_pass
