use Rattle.std.proofs.Common.{◌≡◌, length}
use Rattle.flow_case_seen.proofs.all.slots_of.Given as goal

abbrev pub invariant-loop : goal.invariant-loop
invariant-loop l = length l.slots.items ≡ l.counter
