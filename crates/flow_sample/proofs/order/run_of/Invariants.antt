use Rattle.std.proofs.Common.{ℕ, ◌<◌}
use Rattle.flow_model.specs.Lists.{◌∈◌}
use Rattle.flow_sample.specs.Arranged.{IsArranged}
use Rattle.flow_sample.proofs.order.run_of.Given as goal

abbrev pub invariant-loop-start : goal.invariant-loop-start
invariant-loop-start g l = record {
  arranged : IsArranged l.items l.left l.order.items;
  passed : (n : ℕ) → n < l.start → n ∈ l.order.items;
}
