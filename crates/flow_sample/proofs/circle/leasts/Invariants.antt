use Rattle.std.proofs.Common.{◌≡◌, take, map}
use Rattle.flow_sample.specs.Rows.{least_at}
use Rattle.flow_sample.proofs.circle.leasts.Given as goal

abbrev pub invariant-loop-number : goal.invariant-loop-number
invariant-loop-number g l = l.leaves.items ≡ map (least_at l.items) (take l.number-index l.numbers)
