use Rattle.flow_ask.specs.declared.ask.Ask.TheVariants as ask
use Rattle.flow_core.proofs.Growth.{performs_grow}
use Rattle.flow_roles.proofs.Dutiful.{still_dutiful}
use Rattle.flow_roles.proofs.desk.Desk.perform.Goals as goal

pub invariant_of-self : goal.invariant_of-self
invariant_of-self c =
    let before = c.self.inside.core in
    let after = c.perform.new.self in
    still_dutiful c.self.inside.policy.duties before after (ask.Do c.args.leaf) c.args.by (λ leaf e. cc) (performs_grow before after c.args.leaf c.args.by c.perform.result c.perform.ensures) c.self.invariant
