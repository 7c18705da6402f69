use Rattle.std.proofs.Common.{take}
use Rattle.flow_rules.specs.Narrowed.{LeftOf}
use Rattle.flow_rules.proofs.narrowed.left_of.Given as goal

abbrev pub invariant-loop-place : goal.invariant-loop-place
invariant-loop-place l = LeftOf l.unmet l.lanes l.left.items (take l.place l.rules)
