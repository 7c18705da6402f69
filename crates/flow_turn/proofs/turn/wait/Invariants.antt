use Rattle.std.proofs.Common.{◌≡◌}
use Rattle.flow_turn.specs.Passes.{IsSameSeat}
use Rattle.flow_turn.proofs.turn.wait.Given as goal

abbrev pub invariant-loop : goal.invariant-loop
invariant-loop g l = IsSameSeat l.fn.seat l.seat × (l.seat.me ≡ l.fn.seat.me)
