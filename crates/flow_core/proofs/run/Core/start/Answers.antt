use Rattle.std.proofs.Common.{false, List, sym, subst, true≢false}
use Rattle.flow_model.specs.declared.history.Entry.{Entry}
use Rattle.flow_core.specs.Invariant.{IsKept}
use Rattle.flow_core.proofs.run.Core.start.Goals as goal

pub invariant_of-result : goal.invariant_of-result
invariant_of-result c = record {
  kept = subst (λ (h : List Entry). IsKept c.args.workflow c.args.limit h c.in-Ok.field-0.residual c.in-Ok.field-0.claims c.in-Ok.field-0.world false) (sym c.in-Ok.ensures.none) c.in-Ok.ensures.kept;
  room = c.in-Ok.ensures.room;
  small = c.requires.few;
  ahead = λ looked. absurd (true≢false (sym looked));
}
