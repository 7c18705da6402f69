use Rattle.std.proofs.Common.{◌<◌, ◌↔◌, ℕ, IsTrue, take}
use Rattle.flow_model.specs.declared.limits.TheConstants.{MOST_LEAVES}
use Rattle.flow_model.specs.Lists.{◌∈◌}
use Rattle.leaf_rows.specs.Leaves.{has_leaf}
use Rattle.flow_reach.proofs.sets.set_of.Given as goal

abbrev pub invariant-loop-leaf : goal.invariant-loop-leaf
invariant-loop-leaf l = (n : ℕ) → IsTrue (has_leaf l.set n) ↔ ((n < MOST_LEAVES) × (n ∈ take l.leaf-index l.leaves))
