use Rattle.std.proofs.Common.{subst, sym}
use Rattle.flow_residual.specs.Remaining.{Remaining}
use Rattle.flow_core.specs.Invariant.{IsKept}
use Rattle.flow_core.proofs.run.Core.prepare.Goals as goal

pub invariant_of-self : goal.invariant_of-self
invariant_of-self c =
    let i = c.self.inside in
    record {
      kept = subst (λ (r : Remaining). IsKept i.workflow i.limit i.history.items r i.claims i.world i.committed) (sym c.prepare.ensures) c.self.invariant.kept;
      room = c.self.invariant.room;
      small = c.self.invariant.small;
      ahead = c.self.invariant.ahead;
    }
