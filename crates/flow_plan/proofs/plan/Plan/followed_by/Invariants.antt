use Rattle.std.proofs.Common.{IsTrue, [], ◌∷◌, take}
use Rattle.leaf_rows.specs.Leaves.{has_leaf}
use Rattle.flow_model.specs.Lists.{◌∈◌}
use Rattle.flow_model.specs.Ready.{DoneOr}
use Rattle.flow_plan.specs.Orders.{MayFollowInEveryOrder}
use Rattle.flow_plan.specs.Rows.{IsRowOf}
use Rattle.flow_plan.specs.Sided.{IsDoneIn}
use Rattle.flow_plan.proofs.plan.Plan.followed_by.Given as goal

abbrev pub invariant-loop-leaf : goal.invariant-loop-leaf
invariant-loop-leaf l = IsRowOf (λ n. (n ∈ take l.leaf-index l.leaf-items) × (IsTrue (has_leaf l.candidates n)
    × MayFollowInEveryOrder l.self (DoneOr (IsDoneIn l.sides) (n ∷ [])) l.list)) l.all
