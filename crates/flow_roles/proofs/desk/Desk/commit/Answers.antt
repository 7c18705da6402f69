use Rattle.flow_ask.specs.declared.ask.Ask.TheVariants as ask
use Rattle.flow_core.proofs.Growth.{commits_grow}
use Rattle.flow_roles.proofs.Dutiful.{still_dutiful}
use Rattle.flow_roles.proofs.desk.Desk.commit.Goals as goal

pub invariant_of-self : goal.invariant_of-self
invariant_of-self c =
    let before = c.self.inside.core in
    let after = c.commit.new.self in
    still_dutiful c.self.inside.policy.duties before after (ask.Commit) c.args.by (λ leaf e. cc) (commits_grow before after c.args.by c.commit.result c.commit.ensures) c.self.invariant
