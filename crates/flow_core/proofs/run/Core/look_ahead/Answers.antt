use Rattle.std.proofs.Common.{subst, sym}
use Rattle.leaf_rows.specs.Leaves.{has_leaf}
use Rattle.flow_model.specs.Run.{RunState, state_of}
use Rattle.flow_workflow.specs.Definition.{schema_of}
use Rattle.flow_residual.specs.Remaining.{Remaining, IsOf}
use Rattle.flow_core.specs.Invariant.{IsKept}
use Rattle.flow_core.proofs.Tests.{told_beside, told_first}
use Rattle.flow_core.proofs.run.Core.look_ahead.Goals as goal

pub invariant_of-self : goal.invariant_of-self
invariant_of-self c =
    let i = c.self.inside in
    let k = c.self.invariant.kept in
    let s : RunState = state_of (schema_of i.workflow) i.history.items in
    let remains : IsOf (schema_of i.workflow) s c.look_ahead.new.self = subst (IsOf (schema_of i.workflow) s) (sym c.look_ahead.ensures) k.remains in
    record {
      kept = subst (λ (r : Remaining). IsKept i.workflow i.limit i.history.items r i.claims i.world i.committed) (sym c.look_ahead.ensures) k;
      room = c.self.invariant.room;
      small = c.self.invariant.small;
      ahead = λ looked. record {
        all = λ leaf. told_beside i.workflow s i.claims k.claims c.look_ahead.new.self remains leaf (has_leaf c.all_that_follow-self-inside.result leaf) c.leaves.result.now c.leaves.ensures
            (λ w t of. c.all_that_follow-self-inside.ensures w t of leaf);
        one = λ leaf. told_first i.workflow s i.claims k.claims c.look_ahead.new.self remains leaf (has_leaf c.all_that_follow_first-self-inside.result leaf) c.leaves-then-not-self.result.now c.leaves-then-not-self.ensures
            (λ w t of. c.all_that_follow_first-self-inside.ensures w t of leaf);
      };
    }
