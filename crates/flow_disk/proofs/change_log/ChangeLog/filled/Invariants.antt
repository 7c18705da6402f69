use Rattle.std.proofs.Common.{drop}
use Rattle.flow_disk.specs.ChangeLog.{past_of, moment_of}
use Rattle.flow_disk.proofs.ReplayLemmas.{Stands}
use Rattle.flow_disk.proofs.change_log.ChangeLog.filled.Given as goal

abbrev pub invariant-loop-change : goal.invariant-loop-change
invariant-loop-change l = Stands l.self.pool.items l.fill (drop l.change-index l.change-items) (past_of l.self (moment_of l.self)) l.replay
