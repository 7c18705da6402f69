use Rattle.std.proofs.Common.{◌≡◌}
use Rattle.test_threads.proofs.tests.turns.write_all.Given as goal

abbrev pub invariant-loop-turn : goal.invariant-loop-turn
invariant-loop-turn g l = l.pass.lock ≡ l.fn.pass.lock
