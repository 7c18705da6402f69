use Rattle.std.proofs.Common.{◌≤◌}
use Rattle.flow_event_log.proofs.moment.Front.fraction.Given as goal

abbrev pub invariant-digits : goal.invariant-digits
invariant-digits l = (l.worth ≤ 100000) × (l.total ≤ 1000000)
