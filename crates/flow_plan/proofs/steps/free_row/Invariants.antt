use Rattle.std.proofs.Common.{ℕ, List, take}
use Rattle.flow_model.specs.Lists.{◌∈◌}
use Rattle.flow_model.specs.Process.{Process}
use Rattle.flow_model.specs.Ready.{DirectlyBefore}
use Rattle.flow_plan.specs.CutSides.{IsFree}
use Rattle.flow_plan.specs.Rows.{IsRowOf, AreRowsOf}
use Rattle.flow_plan.proofs.steps.free_row.Given as goal

abbrev pub invariant-loop-place : goal.invariant-loop-place
invariant-loop-place g l = (q : Process) (pairs : List (ℕ × ℕ)) → AreRowsOf (DirectlyBefore q pairs) l.leaves l.before →
    IsRowOf (λ n. (n ∈ take l.place l.leaves) × IsFree (DirectlyBefore q pairs) l.sides n) l.row
