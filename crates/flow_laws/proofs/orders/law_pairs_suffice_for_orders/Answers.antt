use Rattle.flow_laws.proofs.OrdersByTwo.{pairs_suffice_for_orders}
use Rattle.flow_laws.proofs.orders.law_pairs_suffice_for_orders.Goals as goal

pub returns : goal.returns
returns c = pairs_suffice_for_orders
