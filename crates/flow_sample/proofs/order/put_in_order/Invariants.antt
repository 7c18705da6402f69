use Rattle.std.proofs.Common.{ℕ, ◌⊎◌, reverse}
use Rattle.flow_model.specs.Lists.{◌∈◌}
use Rattle.flow_sample.specs.Arranged.{IsArranged}
use Rattle.flow_sample.proofs.OrderLemmas.{AreLeavesOn, IsPath, steps}
use Rattle.flow_sample.proofs.order.put_in_order.Given as goal

abbrev pub invariant-loop-top : goal.invariant-loop-top
invariant-loop-top g l = record {
  arranged : IsArranged l.items l.left l.order.items;
  path : IsPath l.items l.order.items (reverse l.path.items);
  leaves : AreLeavesOn l.items l.on_path (reverse l.path.items);
  start : (l.start ∈ l.order.items) ⊎ (l.start ∈ reverse l.path.items);
  kept : (m : ℕ) → m ∈ l.initial.order.items → m ∈ l.order.items;
}

abbrev pub decreases-loop-top : goal.decreases-loop-top
decreases-loop-top g l = steps l.items l.order.items (reverse l.path.items)
