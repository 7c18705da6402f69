use Rattle.flow_sample.specs.Rows.{has_waits}
use Rattle.flow_sample.proofs.OrderLemmas.{IsUnion}
use Rattle.flow_sample.proofs.item.all_waits.Given as goal

abbrev pub invariant-loop-item : goal.invariant-loop-item
invariant-loop-item g l = IsUnion has_waits l.items l.item-index l.all
