use Rattle.std.proofs.Common.{take}
use Rattle.flow_core.specs.Run.{schema}
use Rattle.flow_standing.specs.Following.{IsTrail}
use Rattle.flow_standing.specs.Past.{IsPast}
use Rattle.flow_standing.proofs.past.Past.of.Given as goal

abbrev pub invariant-loop-place : goal.invariant-loop-place
invariant-loop-place l = record {
  trail : IsTrail (schema l.core) l.core.history l.place l.trail.items;
  past : IsPast (schema l.core) (take l.place l.core.history) l.past.bans.items l.past.failed.items;
}
