use Rattle.flow_core.specs.Run.{schema}
use Rattle.flow_standing.specs.Following.{IsTrail}
use Rattle.flow_standing.proofs.trail.doings.Given as goal

abbrev pub invariant-loop-place : goal.invariant-loop-place
invariant-loop-place l = IsTrail (schema l.core) l.core.history l.place l.trail.items
