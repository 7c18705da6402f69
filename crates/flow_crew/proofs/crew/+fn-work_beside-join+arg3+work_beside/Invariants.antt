use Rattle.std.proofs.Common.{◌+◌, ◌*◌}
use Rattle.flow_crew.proofs.crew.+fn-work_beside-join+arg3+work_beside.Given as goal

abbrev pub decreases-join+arg3 : goal.decreases-join+arg3
decreases-join+arg3 g l = 2 * l.fewer + 1

abbrev pub decreases-work_beside : goal.decreases-work_beside
decreases-work_beside g l = 2 * l.workers
