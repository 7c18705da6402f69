use Rattle.std.proofs.Common.{refl}
use Rattle.flow_core.proofs.Steps.{kept_committed}
use Rattle.flow_core.proofs.Entries.{entered}
use Rattle.flow_core.proofs.run.Core.record_commit.Goals as goal

pub invariant_of-self : goal.invariant_of-self
invariant_of-self c =
    let i = c.self.inside in
    let none = rw (← c.self.view_is) at c.requires.no_claim in
    let good = rw (← c.self.view_is) at c.requires.good in
    entered i c.self.invariant c.args.self.now c.self.view_is _ c.args.by _ refl refl c.enter.ensures.unlooked c.enter.ensures.items c.enter.ensures.capacity c.requires.open c.requires.steps
    (λ going room. kept_committed i c.self.invariant going room c.args.by none good)
