use Rattle.std.proofs.Common.{refl}
use Rattle.flow_crew.proofs.standing.unless_open.Goals as goal

pub returns-in-None : goal.returns-in-None
returns-in-None c = (refl, λ i free. c.in-None.ensures i free.0)
