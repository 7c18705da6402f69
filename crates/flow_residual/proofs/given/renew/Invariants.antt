use Rattle.std.proofs.Common.{◌≡◌, drop}
use Rattle.flow_residual.specs.Given.{renewed_at}
use Rattle.flow_residual.proofs.given.renew.Given as goal

abbrev pub invariant-loop-place : goal.invariant-loop-place
invariant-loop-place l = renewed_at l.epoch (drop l.place-index l.places) l.given ≡ renewed_at l.epoch l.places l.initial.given
