use Rattle.std.proofs.Common.{◌≡◌, slice_get, Some}
use Rattle.flow_expand.specs.declared.lay.Stage.TheVariants as stage
use Rattle.flow_expand.specs.Directory.{decls_of}
use Rattle.flow_expand.specs.Calls.{IsSettlement}
use Rattle.flow_expand.specs.Settlement.{IsPath, Stays, work_left}
use Rattle.flow_expand.proofs.settlement.Settlement.settle.Given as goal

abbrev pub invariant-loop-flow : goal.invariant-loop-flow
invariant-loop-flow l = record {
  settlement : IsSettlement l.directory l.self;
  path : IsPath (decls_of l.directory) l.self.laid.items l.path.items;
  stays : Stays l.fn.self.laid.items l.self.laid.items;
  begun : ¬ (slice_get l.self.laid.items l.start ≡ Some stage.Unlaid);
}

abbrev pub decreases-loop-flow : goal.decreases-loop-flow
decreases-loop-flow l = work_left l.self.laid.items
