use Rattle.std.proofs.Common.{◌≡◌, ◌↔◌, ℕ, Bool, IsTrue, drop}
use Rattle.flow_model.specs.Lists.{Each}
use Rattle.flow_plan.specs.CutSides.{TellIn}
use Rattle.flow_plan.specs.Fields.{IsTableOf}
use Rattle.flow_plan.specs.Orders.{MayComeNext}
use Rattle.flow_plan.specs.Planned.{Planned}
use Rattle.flow_plan.proofs.table.Table.each_ready.Given as goal

abbrev pub invariant-loop-leaf : goal.invariant-loop-leaf
invariant-loop-leaf g l = (p : Planned) → IsTableOf p l.self → p.leaves ≡ l.leaves → (done : ℕ → Bool) →
    TellIn p (λ x. IsTrue (done x)) l.sides →
    Each (MayComeNext p (λ x. IsTrue (done x))) l.list ↔ Each (MayComeNext p (λ x. IsTrue (done x))) (drop l.leaf-index l.list)
