use Rattle.flow_core.proofs.run.Core.can_avoid.Goals as goal

pub returns : goal.returns
returns c = rw (← c.self.view_is) (c.can_avoid.ensures _ _ c.self.invariant.kept.remains)
