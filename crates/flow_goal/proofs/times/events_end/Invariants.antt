use Rattle.std.proofs.Common.{◌≡◌, ◌<◌, ℕ, Some}
use Rattle.flow_model.specs.Facts.{event_at}
use Rattle.flow_goal.proofs.times.events_end.Given as goal

abbrev pub invariant-loop-leaf : goal.invariant-loop-leaf
invariant-loop-leaf l = (leaf event : ℕ) → leaf < l.leaf → event_at l.tree.labels leaf ≡ Some event → event < l.end
