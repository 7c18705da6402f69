use Rattle.std.proofs.Common.{subst}
use Rattle.flow_workflow.specs.Numbered.{IsAdded}
use Rattle.flow_policy.specs.Mentions.{said_in}
use Rattle.flow_policy.proofs.StaffLemmas.{user_added, role_added}
use Rattle.flow_policy.proofs.staff.Staff.add.Goals as goal

pub returns-in_ok-add-in-UserNeeded : goal.returns-in_ok-add-in-UserNeeded
returns-in_ok-add-in-UserNeeded c = λ so_far h.
    let added = subst (λ n. IsAdded c.args.self.now.users n c.add-in-UserNeeded.new.self) c.in_ok-new-in-UserNeeded.ensures c.in_ok-add-in-UserNeeded.ensures.keys in
    let (u, r) = user_added so_far (said_in c.args.mention) c.args.self.now c.add-in-UserNeeded.new.self c.in-UserNeeded.is h added in
    record { users = u; roles = r }

pub returns-in_ok-add-in-RoleNeeded : goal.returns-in_ok-add-in-RoleNeeded
returns-in_ok-add-in-RoleNeeded c = λ so_far h.
    let added = subst (λ n. IsAdded c.args.self.now.roles n c.add-in-RoleNeeded-2.new.self) c.in_ok-new-in-RoleNeeded.ensures c.in_ok-add-in-RoleNeeded.ensures.keys in
    let (u, r) = role_added so_far (said_in c.args.mention) c.args.self.now c.add-in-RoleNeeded-2.new.self c.in-RoleNeeded.is h added in
    record { users = u; roles = r }
