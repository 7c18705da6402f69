use Rattle.std.proofs.Common.{true}
use Rattle.flow_log.specs.Case.{fitted_of}
use Rattle.flow_log.specs.Search.{Goes}
use Rattle.flow_log.proofs.points.Points.expand.Given as goal

abbrev pub invariant-loop-leaf : goal.invariant-loop-leaf
invariant-loop-leaf g l = Goes (fitted_of l.case) l.budget l.fn.self.points.items l.self.points.items l.place 0 l.leaf true
