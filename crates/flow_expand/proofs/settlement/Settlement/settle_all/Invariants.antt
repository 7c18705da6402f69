use Rattle.std.proofs.Common.{◌<◌, ℕ}
use Rattle.flow_expand.specs.Lay.{IsLaidAt}
use Rattle.flow_expand.specs.Calls.{IsSettlement}
use Rattle.flow_expand.specs.Settlement.{IsIdle}
use Rattle.flow_expand.proofs.settlement.Settlement.settle_all.Given as goal

abbrev pub invariant-loop-flow : goal.invariant-loop-flow
invariant-loop-flow l = record {
  settlement : IsSettlement l.directory l.self;
  idle : IsIdle l.self.laid.items;
  all : (k : ℕ) → k < l.flow → IsLaidAt l.self.laid.items k;
}
