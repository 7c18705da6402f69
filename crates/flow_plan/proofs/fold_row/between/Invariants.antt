use Rattle.std.proofs.Common.{◌≡◌, ◌<◌, ◌≤◌, ◌↔◌, ◌⊎◌, ℕ, IsTrue}
use Rattle.leaf_rows.specs.Leaves.{has_leaf}
use Rattle.flow_plan.proofs.fold_row.between.Given as goal

-- the leaves up to this one are in
abbrev pub invariant-loop-leaf : goal.invariant-loop-leaf
invariant-loop-leaf l = record {
  told : (n : ℕ) → IsTrue (has_leaf l.set n) ↔ (l.first ≤ n × n < l.leaf);
  within : (l.leaf ≤ l.end) ⊎ (l.leaf ≡ l.first);
}
