use Rattle.std.proofs.Common.{◌≡◌, ◌<◌, ◌↔◌, ℕ, true, false, length, take, get_or}
use Rattle.flow_model.specs.Lists.{◌∈◌}
use Rattle.flow_core.specs.Run.{schema}
use Rattle.flow_reason.proofs.sides.done_flags.Given as goal

abbrev pub invariant-loop-leaf : goal.invariant-loop-leaf
invariant-loop-leaf l = record {
  count : length l.flags.items ≡ length (schema l.core).labels;
  told : (n : ℕ) → n < length (schema l.core).labels → (get_or l.flags.items n false ≡ true) ↔ (n ∈ take l.leaf-index l.leaf-items);
}
