use Rattle.std.proofs.Common.{◌-◌, length}
use Rattle.flow_crew.proofs.Continuing.{Goes}
use Rattle.flow_crew.proofs.book.Book.finish.Given as goal

abbrev pub invariant-loop-call : goal.invariant-loop-call
invariant-loop-call g l = Goes l.fn.self l.by l.self

abbrev pub decreases-loop-call : goal.decreases-loop-call
decreases-loop-call g l = l.self.limit - length l.self.history
