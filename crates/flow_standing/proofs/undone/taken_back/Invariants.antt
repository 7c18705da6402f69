use Rattle.flow_core.specs.Run.{schema}
use Rattle.flow_standing.specs.Following.{IsTrail}
use Rattle.flow_standing.proofs.Undoing.{IsTakenUpTo}
use Rattle.flow_standing.proofs.undone.taken_back.Given as goal

abbrev pub invariant-loop-place : goal.invariant-loop-place
invariant-loop-place l = record {
  trail : IsTrail (schema l.core) l.core.history l.place l.trail.items;
  taken : IsTakenUpTo (schema l.core) l.core.history l.place l.all.items;
}
