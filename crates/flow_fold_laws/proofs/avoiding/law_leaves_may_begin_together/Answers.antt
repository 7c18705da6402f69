use Rattle.flow_fold_laws.proofs.AvoidedTogether.{all_may_begin}
use Rattle.flow_fold_laws.proofs.avoiding.law_leaves_may_begin_together.Goals as goal

pub returns : goal.returns
returns c = all_may_begin
