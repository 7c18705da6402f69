use Rattle.flow_fold_laws.proofs.FoldedOrdersByTwo.{folded_pairs_suffice}
use Rattle.flow_fold_laws.proofs.orders.law_two_suffice_in_folded.Goals as goal

pub returns : goal.returns
returns c = folded_pairs_suffice
