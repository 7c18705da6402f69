use Rattle.flow_ask.specs.declared.ask.Ask.TheVariants as ask
use Rattle.flow_core.proofs.Growth.{rewinds_grow}
use Rattle.flow_roles.proofs.Dutiful.{still_dutiful}
use Rattle.flow_roles.proofs.desk.Desk.rewind.Goals as goal

pub invariant_of-self : goal.invariant_of-self
invariant_of-self c =
    let before = c.self.inside.core in
    let after = c.rewind.new.self in
    still_dutiful c.self.inside.policy.duties before after (ask.Rewind) c.args.by (λ leaf e. cc) (rewinds_grow before after c.args.by c.rewind.result c.rewind.ensures) c.self.invariant
