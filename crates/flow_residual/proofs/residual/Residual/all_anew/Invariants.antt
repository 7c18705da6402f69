use Rattle.std.proofs.Common.{ℕ, ◌↔◌, IsTrue}
use Rattle.leaf_rows.specs.Leaves.{has_leaf}
use Rattle.flow_residual.specs.Options.{SomeBelow}
use Rattle.flow_residual.specs.Question.{TakesInOrder}
use Rattle.flow_residual.proofs.residual.Residual.all_anew.Given as goal

abbrev pub invariant-loop-place : goal.invariant-loop-place
invariant-loop-place l = (leaf : ℕ) → IsTrue (has_leaf l.found leaf) ↔ SomeBelow (TakesInOrder l.self l.claims l.stand leaf) l.self.options l.place
