use Rattle.flow_fold_laws.proofs.BegunNext.{may_begin_by_one_pass}
use Rattle.flow_fold_laws.proofs.beginning.law_may_begin_by_one_pass.Goals as goal

pub returns : goal.returns
returns c = may_begin_by_one_pass
