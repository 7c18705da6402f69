use Rattle.std.proofs.Common.{◌+◌, ◌*◌}
use Rattle.test_threads.proofs.tests.turns.+fn-write_beside-join+arg3+write_beside.Given as goal

abbrev pub decreases-join+arg3 : goal.decreases-join+arg3
decreases-join+arg3 g l = 2 * l.fewer + 1

abbrev pub decreases-write_beside : goal.decreases-write_beside
decreases-write_beside g l = 2 * l.callers
