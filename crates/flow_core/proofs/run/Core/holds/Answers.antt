use Rattle.std.proofs.Common.{ap, ◌∙◌}
use Rattle.flow_model.specs.Facts.{State}
use Rattle.flow_core.proofs.Lawful.{world_is}
use Rattle.flow_core.proofs.run.Core.holds.Goals as goal

pub returns-clause-now : goal.returns-clause-now
returns-clause-now c =
    rw (← c.self.view_is) (c.has.ensures.now ∙ ap (λ (held : State). held c.args.fact) (world_is c.self.inside.workflow _ c.self.inside.world c.self.invariant.kept.course))

pub returns-clause-past : goal.returns-clause-past
returns-clause-past c = rw (← c.self.view_is, ← c.self.invariant.kept.course.count) c.has.ensures.past
