use Rattle.std.proofs.Common.{◌≡◌, ◌<◌, ℕ, false, get_or, length}
use Rattle.flow_goal.specs.Folds.{named_by}
use Rattle.flow_goal.proofs.folds.named_leaves.Given as goal

abbrev pub invariant-loop-leaf : goal.invariant-loop-leaf
invariant-loop-leaf l = (length l.named.items ≡ l.leaf) × ((leaf : ℕ) → leaf < l.leaf → get_or l.named.items leaf false ≡ named_by l.tree.labels l.events leaf)
