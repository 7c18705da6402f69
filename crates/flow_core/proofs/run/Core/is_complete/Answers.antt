use Rattle.flow_core.proofs.run.Core.is_complete.Goals as goal

pub returns : goal.returns
returns c = rw (← c.self.view_is) (c.is_complete.ensures _ _ c.self.invariant.kept.remains)
