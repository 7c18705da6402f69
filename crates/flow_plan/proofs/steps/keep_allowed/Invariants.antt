use Rattle.std.proofs.Common.{ℕ, ◌↔◌, IsTrue, take}
use Rattle.leaf_rows.specs.Leaves.{has_leaf}
use Rattle.flow_model.specs.Lists.{Each}
use Rattle.flow_plan.specs.Known.{AreLaidOut}
use Rattle.flow_plan.specs.Parts.{PartAllows}
use Rattle.flow_plan.specs.Passed.{ArePassed, IsHeld}
use Rattle.flow_plan.proofs.steps.keep_allowed.Given as goal

abbrev pub invariant-loop-place : goal.invariant-loop-place
invariant-loop-place g l = AreLaidOut l.all l.spans l.parts → ArePassed l.all l.sides l.leaves l.passed × IsHeld l.all l.kept × ((n : ℕ) →
    IsTrue (has_leaf l.kept.leaves n) ↔ (IsTrue (has_leaf l.leaves n) × Each (λ row. PartAllows row l.sides n) (take l.place l.parts)))
