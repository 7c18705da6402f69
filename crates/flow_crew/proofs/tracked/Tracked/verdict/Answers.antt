use Rattle.flow_crew.proofs.tracked.Tracked.verdict.Goals as goal

pub returns : goal.returns
returns c = rw (← c.self.view_is) c.self.invariant.ends
