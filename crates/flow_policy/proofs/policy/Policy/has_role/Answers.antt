use Rattle.std.proofs.Common.{ap}
use Rattle.flow_policy.specs.Assigned.{Assigned}
use Rattle.flow_policy.proofs.TableLemmas.{to_duties, from_duties}
use Rattle.flow_policy.proofs.policy.Policy.has_role.Goals as goal

pub returns : goal.returns
returns c =
    let members = ap (λ (a : Assigned). a.duties.members) c.self.view_is in
    let allowed = ap (λ (a : Assigned). a.duties.allowed) c.self.view_is in (
      (λ yes. to_duties c.args.user c.args.event _ _ _ _ members allowed (c.shares.ensures.0 yes)),
      (λ some. c.shares.ensures.1 (from_duties c.args.user c.args.event _ c.self.inside.allowed _ _ members allowed some)),
    )
