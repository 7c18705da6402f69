use Rattle.std.proofs.Common.{true≢false, sym}
use Rattle.flow_staff.specs.Desk.{desk_of}
use Rattle.flow_roles.proofs.SingleLemmas.{denied_or_left}
use Rattle.flow_staff.proofs.duties.may_take.Goals as goal

pub returns-in-Some : goal.returns-in-Some
returns-in-Some c =
    ((λ t. absurd (true≢false (sym t))), (λ left. absurd (denied_or_left (desk_of c.args.core.now c.args.policy.now) c.args.by c.args.event c.in-Some.field-0 c.in-Some.ensures left)))
