use Rattle.std.proofs.Common.{◌↔◌, ℕ, IsTrue, Bool, subst, sym}
use Rattle.flow_model.specs.Lists.{◌∈◌}
use Rattle.flow_core.specs.declared.run.Core.TheInside.{Inside}
use Rattle.flow_core.specs.Invariant.{run_by, IsRunning}
use Rattle.flow_core.specs.Run.{now}
use Rattle.flow_core.proofs.GivenClaims.{not_left, cannot_step}
use Rattle.flow_core.proofs.run.Core.is_done.Goals as goal

-- what the residual tells of its journal, it tells of the run's
done_told : (i : Inside) → IsRunning i → (leaf : ℕ) (told : Bool) → IsTrue told ↔ (leaf ∈ i.residual.journal) → IsTrue told ↔ (leaf ∈ (now (run_by i)).journal)
done_told i k leaf told says = subst (λ journal. IsTrue told ↔ (leaf ∈ journal)) (sym k.kept.remains.journal_is) says

pub returns : goal.returns
returns c =
    let i = c.self.inside in
    let says = done_told i c.self.invariant c.args.leaf c.is_done.result c.is_done.ensures in
    record {
      done = rw (← c.self.view_is) says;
      no_step = rw (← c.self.view_is) (λ told. cannot_step i c.self.invariant c.args.leaf (says.0 told));
      not_left = rw (← c.self.view_is) (λ told. not_left i c.self.invariant c.args.leaf (says.0 told));
    }
