use Rattle.flow_staff.specs.Desk.{desk_of}
use Rattle.flow_roles.proofs.TakerLemmas.{none_with_another, taker_is_another}
use Rattle.flow_staff.proofs.duties.is_with_another.Goals as goal

pub returns : goal.returns
returns c = taker_is_another (desk_of c.args.core.now c.args.policy.now) c.args.event c.args.by c.in-Some.taker c.in-Some.ensures

pub returns-in_default : goal.returns-in_default
returns-in_default c = none_with_another (desk_of c.args.core.now c.args.policy.now) c.args.event c.args.by c.in_default.ensures
