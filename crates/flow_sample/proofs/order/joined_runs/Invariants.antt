use Rattle.std.proofs.Common.{◌≡◌, take}
use Rattle.flow_sample.specs.Rows.{runs}
use Rattle.flow_sample.proofs.order.joined_runs.Given as goal

abbrev pub invariant-loop-number : goal.invariant-loop-number
invariant-loop-number g l = l.run.items ≡ runs l.items (take l.number-index l.order)
