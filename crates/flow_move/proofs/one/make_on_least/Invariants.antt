use Rattle.std.proofs.Common.{◌≡◌, ◌<◌, ℕ}
use Rattle.flow_move.specs.Found.{MayOn}
use Rattle.flow_move.proofs.one.make_on_least.Given as goal

abbrev pub invariant-loop-leaf : goal.invariant-loop-leaf
invariant-loop-leaf l = (l.run ≡ l.initial.run) × ((n : ℕ) → n < l.leaf → ¬ (MayOn l.initial.run l.labels l.label l.by l.step n))
