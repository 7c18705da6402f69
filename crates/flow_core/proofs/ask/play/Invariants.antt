use Rattle.std.proofs.Common.{◌≡◌, length, take}
use Rattle.flow_core.specs.Ask.{IsPlayed}
use Rattle.flow_core.proofs.ask.play.Given as goal

abbrev pub invariant-loop-index : goal.invariant-loop-index
invariant-loop-index g l = record {
  played : IsPlayed l.fn.core l.by (take l.index l.asks) (take l.index l.told) l.core;
  as_many : length l.told ≡ g.row.N;
}
