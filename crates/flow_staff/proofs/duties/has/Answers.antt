use Rattle.flow_staff.specs.Desk.{desk_of}
use Rattle.flow_roles.proofs.TakerLemmas.{none_has, taker_has}
use Rattle.flow_staff.proofs.duties.has.Goals as goal

pub returns-in-Some : goal.returns-in-Some
returns-in-Some c = taker_has (desk_of c.args.core.now c.args.policy.now) c.args.event c.args.by c.in-Some.taker c.in-Some.ensures

pub returns-in-None : goal.returns-in-None
returns-in-None c = none_has (desk_of c.args.core.now c.args.policy.now) c.args.event c.args.by c.in-None.ensures
