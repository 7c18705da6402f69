use Rattle.std.proofs.Common.{ℕ, ◌↔◌, IsTrue, take}
use Rattle.leaf_rows.specs.Leaves.{has_leaf}
use Rattle.flow_model.specs.Lists.{Each}
use Rattle.flow_plan.specs.Parts.{Keeps}
use Rattle.flow_plan.proofs.steps.keep_for.Given as goal

abbrev pub invariant-loop-part : goal.invariant-loop-part
invariant-loop-part g l = (n : ℕ) → IsTrue (has_leaf l.leaves n) ↔ (IsTrue (has_leaf l.initial.leaves n)
    × Each (λ row. Keeps l.what row (λ x. IsTrue (has_leaf l.claims x)) n) (take l.part-index l.parts))
