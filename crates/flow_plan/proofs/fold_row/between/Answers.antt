use Rattle.std.proofs.Common.{◌≤◌, ◌≡◌, ⊎_elim, arith}
use Rattle.flow_plan.proofs.fold_row.between.Goals as goal

pub returns : goal.returns
returns c = λ n. (
  λ h. let (low, high) = (c.loop-leaf.invariant.told n).0 h in (low, ⊎_elim (λ (k : c.loop-leaf.leaf ≤ c.args.end). omega arith) (λ (k : c.loop-leaf.leaf ≡ c.args.first). absurd (omega arith)) c.loop-leaf.invariant.within),
  λ (low, high). (c.loop-leaf.invariant.told n).1 (low, omega arith),
)
