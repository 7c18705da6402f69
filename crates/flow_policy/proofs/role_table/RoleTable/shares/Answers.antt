use Rattle.flow_policy.proofs.TableLemmas.{share_roles, roles_share}
use Rattle.flow_policy.proofs.role_table.RoleTable.shares.Goals as goal

pub returns : goal.returns
returns c = (
  (λ yes. share_roles c.args.key c.args.other c.args.self.now c.args.table.now _ _ c.part.ensures.part c.part-2.ensures.part (c.share_role.ensures.0 yes)),
  (λ some. c.share_role.ensures.1 (roles_share c.args.key c.args.other c.args.self.now c.args.table.now _ _ c.part.ensures.part c.part-2.ensures.part some)),
)
