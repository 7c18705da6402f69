use Rattle.std.proofs.Common.{◌↔◌, IsTrue, subst}
use Rattle.flow_model.specs.Facts.{State, Holds}
use Rattle.flow_core.proofs.Lawful.{world_is}
use Rattle.flow_core.proofs.run.Core.label_holds.Goals as goal

pub returns : goal.returns
returns c =
    rw (← c.self.view_is) (subst (λ (held : State). IsTrue c.holds.result ↔ Holds held c.args.label)
    (world_is c.self.inside.workflow _ c.self.inside.world c.self.invariant.kept.course) c.holds.ensures)
