use Rattle.std.proofs.Common.{◌-◌}
use Rattle.flow_sample.proofs.OrderLemmas.{IsBetween}
use Rattle.flow_sample.proofs.order.item_with.Given as goal

abbrev pub invariant-loop-first : goal.invariant-loop-first
invariant-loop-first g l = IsBetween l.items l.leaf l.first l.end

abbrev pub decreases-loop-first : goal.decreases-loop-first
decreases-loop-first g l = l.end - l.first
