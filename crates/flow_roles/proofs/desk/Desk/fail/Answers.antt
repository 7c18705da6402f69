use Rattle.flow_ask.specs.declared.ask.Ask.TheVariants as ask
use Rattle.flow_core.proofs.Growth.{failed_grow}
use Rattle.flow_roles.proofs.Dutiful.{still_dutiful}
use Rattle.flow_roles.proofs.desk.Desk.fail.Goals as goal

pub invariant_of-self : goal.invariant_of-self
invariant_of-self c =
    let before = c.self.inside.core in
    let after = c.fail.new.self in
    still_dutiful c.self.inside.policy.duties before after (ask.Fail c.args.claim) c.args.by (λ leaf e. cc) (failed_grow before after c.args.claim c.args.by c.fail.result c.fail.ensures) c.self.invariant
