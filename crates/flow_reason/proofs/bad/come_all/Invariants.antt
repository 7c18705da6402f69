use Rattle.flow_reason.specs.Bad.{GivesNothingUp}
use Rattle.flow_reason.proofs.bad.come_all.Given as goal

abbrev pub invariant-loop-leaf : goal.invariant-loop-leaf
invariant-loop-leaf l = GivesNothingUp l.fn.core l.core
