use Rattle.flow_core.proofs.Lawful.{lawful}
use Rattle.flow_core.proofs.run.Core.history.Goals as goal

pub returns-clause-lawful : goal.returns-clause-lawful
returns-clause-lawful c = rw (← c.self.view_is) (lawful c.self.inside c.self.invariant)
