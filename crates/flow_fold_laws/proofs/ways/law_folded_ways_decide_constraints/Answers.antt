use Rattle.flow_fold_laws.proofs.UnfoldedOptions.{constraint_by_folded_ways}
use Rattle.flow_fold_laws.proofs.ways.law_folded_ways_decide_constraints.Goals as goal

pub returns : goal.returns
returns c = constraint_by_folded_ways
