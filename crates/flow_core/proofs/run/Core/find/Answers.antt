use Rattle.flow_core.proofs.GivenClaims.{given_is}
use Rattle.flow_core.proofs.run.Core.find.Goals as goal

pub returns : goal.returns
returns c = rw (← c.self.view_is) (given_is c.self.inside c.self.invariant c.args.claim c.find.result c.find.ensures)
