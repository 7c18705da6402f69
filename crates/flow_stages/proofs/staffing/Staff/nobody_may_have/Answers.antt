use Rattle.std.proofs.Common.{arith}
use Rattle.flow_stages.proofs.staffing.Staff.nobody_may_have.Goals as goal

pub returns-in-None-clause-nobody : goal.returns-in-None-clause-nobody
returns-in-None-clause-nobody c = λ _ user may. c.in-None.ensures.none user (omega arith) (c.requires user c.args.event may.role) may
